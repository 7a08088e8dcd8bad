-- Each refusal is told by the first of its reasons whose test fails.
-- Assumes nothing.
use mathlib.Core.Path.{◌≡◌, refl, sym, ap, ◌∙◌}
use mathlib.Core.Bool.{Bool, true, false, cond, not, ◌&&◌, ◌||◌}
use mathlib.Core.List.{List, [], ◌∷◌}
use mathlib.Core.Logic.{◌⊎◌, inl, inr}
use Prim.Native.Nat.{ℕ, zero, suc, pred, ◌%◌, ◌≤◌, ◌<◌}
use Prim.{tt}
use native.Mathlib.Decide.{ℕ_discrete}
use native.Mathlib.Omega.{arith}
use lib.Dec.{eqb, ltb, leb}
use lib.ListN.{length, get_or}
use borrow.Author.Tests.{ltb-true, lt-ltb, le-ltb, lt-leb, not-true, not-false}
use Rattle.ops.specs.declared.Op.{Op}
use Rattle.ops.specs.declared.Op.TheVariants.{Constant, Variable, Apply, Ite, Select, Store, Unknown}
use Rattle.ops.specs.Ranks.{Arity, FunctionRank, function_rank}
use Rattle.ops.specs.Ranks.FunctionRank.{bool_unary, bool_binary, equality, bv_unary, bv_binary, bv_compare}
use Rattle.ops.specs.Numbers.{op_of}
use Rattle.ops.specs.Fits.{fits}
use Rattle.ops.proofs.Booleans.{never, and_parts}
use Rattle.table.specs.declared.words.Sort.{Sort}
use Rattle.table.specs.declared.words.Term.{Term}
use Rattle.table.specs.declared.ranks.Rank.{Rank}
use Rattle.table.specs.declared.ranks.Rank.TheVariants.{Literal, Input, BoolUnary, BoolBinary, Equality, Choice, BvUnary, BvBinary, BvCompare, Read, Write, Other}
use Rattle.table.specs.declared.ranks.Fields.{Fields}
use Rattle.table.specs.declared.ranks.Fields.TheVariants.{Value, Slot, One, Two, Three}
use Rattle.table.specs.Answers.{Acceptance, accepted}
use Rattle.table.specs.Terms.{words, terms, term_at, sort_at, boolean, vector, scalar, array, vector_of, same_sort}
use Rattle.table.specs.Ranks.{applied, rank_of, fields_of, slotted, immediate}
use Rattle.table.specs.Faults.{rank, fields, is_variable, known, sorted, placed_as, typed_as, typed, valued_as, conflicts, clash, size, refuse_unless, fault_if, fault}
use Rattle.table.specs.Folds.{any_below, first_from}
use Rattle.table.specs.Admission.{refused_by, scan, admission_within}
use Rattle.table.proofs.ThreeSorts.{sorted_by_widths}
use Rattle.table.proofs.Searches.{First, first_is, any_none}
use Rattle.setting.specs.Cells.{cell_at, cell_count}
use Rattle.setting.specs.Arrays.{slot_sort}
use Rattle.setting.specs.Check.{variable_fault, cell_fault, check}
use Rattle.sheets.specs.Marks.{line_at, line_count, mark}
use Rattle.sheets.specs.Check.{sound, line_fault, sheet_check}
use Rattle.diagnosis.specs.Telling.{Line, tell, pass, FirstFails}
use Rattle.diagnosis.specs.Asking.{asks}
use Rattle.std.proofs.Common.{Some}
use Rattle.diagnosis.specs.Reasons.{mark_lines, width_lines, uses, field_lines, sort_lines, clashing, clash_lines, first_clashing, table_reasons, term_reasons, setting_reasons, reasons}
use Rattle.diagnosis.specs.Laws.{Told, Answered, TableTold, SettingTold, SheetTold, AllowanceTold}

-- Some test fails: the first that does tells
first_fails : (ls : List Line) → pass ls ≡ false → FirstFails ls (tell ls)
first_fails [] e = never (sym e)
first_fails (l ∷ ls) e = go l.ok refl (first_fails ls) e
  where
    go : (b : Bool) → l.ok ≡ b → (pass ls ≡ false → FirstFails ls (tell ls)) → (b && pass ls) ≡ false
        → ((l.ok ≡ false) × (cond b (tell ls) (Some l.told) ≡ Some l.told)) ⊎ ((l.ok ≡ true) × FirstFails ls (cond b (tell ls) (Some l.told)))
    go true i later e = inr (i, later e)
    go false i later e = inl (i, refl)

-- Conjunctions of one to four tests, as lines have them
one : (a : Bool) → a ≡ false → a && true ≡ false
one true e = e
one false e = refl

two : (a b : Bool) → a && b ≡ false → a && (b && true) ≡ false
two true b e = one b e
two false b e = refl

three : (a b c : Bool) → a && b && c ≡ false → a && (b && (c && true)) ≡ false
three true b c e = two b c e
three false b c e = refl

quad : (a b c d : Bool) → a && b && c && d ≡ false → a && (b && (c && (d && true))) ≡ false
quad true b c d e = three b c d e
quad false b c d e = refl

after : (a : Bool) {b : Bool} → b ≡ false → a && b ≡ false
after true e = e
after false e = refl

-- What refuses, by number

-- 4
unsorted : (s : Sort) → sorted s ≡ false → pass (width_lines s) ≡ false
unsorted s e = three (leb s.m 32) (leb s.n 32) (eqb s.m 0 || ltb 0 s.n) (sorted_by_widths s ∙ e)

-- 5
misplaced : (f : Fields) (i : ℕ) (x : Term) → placed_as f i x ≡ false → pass (field_lines (uses f) i x) ≡ false
misplaced Value i x e = two (eqb x.q 0) (eqb x.r 0) e
misplaced Slot i x e = one (eqb x.r 0) e
misplaced One i x e = three (ltb x.p i) (eqb x.q 0) (eqb x.r 0) e
misplaced Two i x e = three (ltb x.p i) (ltb x.q i) (eqb x.r 0) e
misplaced Three i x e = three (ltb x.p i) (ltb x.q i) (ltb x.r i) e

-- 6
mistyped : (r : Rank) (t : List ℕ) (i : ℕ) (x : Term) → typed_as r x.sort (sort_at t x.p) (sort_at t x.q) (sort_at t x.r) ≡ false → pass (sort_lines (asks r) t i x) ≡ false
mistyped Literal t i x e = one _ e
mistyped Input t i x e = never (sym e)
mistyped BoolUnary t i x e = two (boolean x.sort) (boolean (sort_at t x.p)) e
mistyped BoolBinary t i x e = three (boolean x.sort) (boolean (sort_at t x.p)) (boolean (sort_at t x.q)) e
mistyped Equality t i x e = three (boolean x.sort) (scalar (sort_at t x.p)) (same_sort (sort_at t x.p) (sort_at t x.q)) e
mistyped Choice t i x e = three (boolean (sort_at t x.p)) (same_sort (sort_at t x.q) x.sort) (same_sort (sort_at t x.r) x.sort) e
mistyped BvUnary t i x e = two (vector x.sort) (same_sort (sort_at t x.p) x.sort) e
mistyped BvBinary t i x e = three (vector x.sort) (same_sort (sort_at t x.p) x.sort) (same_sort (sort_at t x.q) x.sort) e
mistyped BvCompare t i x e = three (boolean x.sort) (vector (sort_at t x.p)) (same_sort (sort_at t x.p) (sort_at t x.q)) e
mistyped Read t i x e = let a = sort_at t x.p in three (array a) (vector_of a.m (sort_at t x.q)) (vector_of a.n x.sort) e
mistyped Write t i x e = quad (array x.sort) (same_sort (sort_at t x.p) x.sort) (vector_of x.sort.m (sort_at t x.q)) (vector_of x.sort.n (sort_at t x.r)) e
mistyped Other t i x e = never (sym e)

-- 7
applied-valued : {a : Arity} (r : FunctionRank a) (x : Term) → valued_as (fields_of (applied r)) x ≡ true
applied-valued bool_unary x = refl
applied-valued bool_binary x = refl
applied-valued equality x = refl
applied-valued bv_unary x = refl
applied-valued bv_binary x = refl
applied-valued bv_compare x = refl

misvalued : (o : Op) (x : Term) → valued_as (fields_of (rank_of o)) x ≡ false
    → (not (immediate o) || fits x.sort.n x.p) && ((not (slotted o) || leb x.p 255) && ((not (slotted o) || leb x.q 1) && true)) ≡ false
misvalued Constant x e = one (fits x.sort.n x.p) e
misvalued Variable x e = two (leb x.p 255) (leb x.q 1) e
misvalued (Apply f) x e = never (sym e ∙ applied-valued (function_rank f) x)
misvalued Ite x e = never (sym e)
misvalued Select x e = never (sym e)
misvalued Store x e = never (sym e)
misvalued Unknown x e = never (sym e)

-- 8
conflict_lines : (k : ℕ) (a x : Term) → conflicts a x ≡ true → pass (clash_lines k a x) ≡ false
conflict_lines k a x e =
    two (same_sort a.sort x.sort) (eqb a.q x.q)
    (not-true (same_sort a.sort x.sort && eqb a.q x.q) (and_parts (eqb a.p x.p) (not (same_sort a.sort x.sort && eqb a.q x.q)) e).1)

clashed : (t : List ℕ) (i : ℕ) → clash t i ≡ true → pass (clash_lines (first_clashing t i) (term_at t (first_clashing t i)) (term_at t i)) ≡ false
unfolding clash
clashed t i e =
    let k = first_clashing t i in
    conflict_lines k (term_at t k) (term_at t i) (and_parts (is_variable (term_at t k)) (conflicts (term_at t k) (term_at t i)) (first.found (go (ℕ_discrete k i)))).1
  where
    f : ℕ → Bool
    f = clashing t (term_at t i)

    first : First f i (first_from f i 0)
    first = first_is f i (first_from f i 0) refl

    go : Dec (first_from f i 0 ≡ i) → first_from f i 0 < i
    go (no n) = let w : first_from f i 0 ≤ i = first.within in omega arith
    go (yes same) =
        never (sym (any_none i f (λ j b. first.before j (omega arith))) ∙ (and_parts (is_variable (term_at t i)) (any_below i f) e).1)

module _ (t sheet values cells : List ℕ) (allowance : ℕ) where
  told_of : (number i : ℕ) (ls : List Line) → reasons t sheet values cells allowance number i ≡ ls → pass ls ≡ false → Told t sheet values cells allowance number i
  told_of number i ls is e s = rw (s, is) (first_fails ls e)

  -- no refusal, or one that is told
  Fault : ℕ → ℕ → Type 0
  Fault i number = (number ≡ 0) ⊎ Told t sheet values cells allowance number i

  refuse_told : (i number : ℕ) (ok : Bool) (rest : ℕ) → (ok ≡ false → Told t sheet values cells allowance number i) → Fault i rest → Fault i (refuse_unless number ok rest)
  unfolding Fault
  refuse_told i number true rest h later = later
  refuse_told i number false rest h later = inr (h refl)

  fault-told : (i : ℕ) → Fault i (fault t i)
  unfolding Fault fault fault_if reasons term_reasons typed
  fault-told i =
      let x = term_at t i in
      refuse_told i 3 (known x) _ (λ e. told_of 3 i _ refl (one (known x) e))
      (refuse_told i 4 (sorted x.sort) _ (λ e. told_of 4 i _ refl (unsorted x.sort e))
      (refuse_told i 5 (placed_as (fields x) i x) _ (λ e. told_of 5 i _ refl (misplaced (fields x) i x e))
      (refuse_told i 6 (typed t x) _ (λ e. told_of 6 i _ refl (mistyped (rank x) t i x e))
      (refuse_told i 7 (valued_as (fields x) x) _ (λ e. told_of 7 i _ refl (misvalued (op_of x.op) x e))
      (refuse_told i 8 (not (clash t i)) _ (λ e. told_of 8 i _ refl (clashed t i (not-false (clash t i) e)))
      (refuse_told i 9 (leb (size t i) 16) 0 (λ e. told_of 9 i _ refl (one (leb (size t i) 16) e)) (inl refl)))))))

  variable_told : (i : ℕ) → Fault i (variable_fault values (term_at t i))
  unfolding Fault reasons setting_reasons
  variable_told i =
      let x = term_at t i in
      refuse_told i 12 (not (is_variable x) || ltb x.p (length values)) _ (λ e. told_of 12 i _ refl (one _ e))
      (refuse_told i 13 (not (is_variable x) || fits x.sort.n (get_or values x.p 0)) 0 (λ e. told_of 13 i _ refl (one _ e)) (inl refl))

  cell-told : (i : ℕ) → Fault i (cell_fault t (cell_at cells i))
  unfolding Fault reasons setting_reasons
  cell-told i =
      let c = cell_at cells i in
      let s = slot_sort t c.slot in
      refuse_told i 14 (array s) _ (λ e. told_of 14 i _ refl (one (array s) e))
      (refuse_told i 15 (fits s.m c.index && fits s.n c.value) 0 (λ e. told_of 15 i _ refl (two (fits s.m c.index) (fits s.n c.value) e)) (inl refl))

  line-told : (i : ℕ) → Fault i (line_fault (line_at sheet i))
  unfolding Fault reasons
  line-told i =
      let l = line_at sheet i in
      refuse_told i 16 (sound l) 0
      (λ e. told_of 16 i _ refl (after (ltb i (line_count sheet)) (three (leb l.kind mark) (leb l.lowest l.highest) (leb l.highest 255) e)))
      (inl refl)

  -- Answers

  Fine : Acceptance → Type 0
  Fine = Answered (Told t sheet values cells allowance)

  by_fault : (f at : ℕ) (rest : Acceptance) → Fault at f → Fine rest → Fine (refused_by f at rest)
  unfolding Fault Fine
  by_fault zero at rest h later = later
  by_fault (suc f) at rest (inl z) later = absurd (omega arith)
  by_fault (suc f) at rest (inr told) later = told

  scan-told : (faults : ℕ → ℕ) → ((k : ℕ) → Fault k (faults k)) → (left at : ℕ) (rest : Acceptance) → Fine rest → Fine (scan faults left at rest)
  unfolding scan
  scan-told faults h zero at rest later = later
  scan-told faults h (suc left) at rest later = by_fault (faults at) at (scan faults left (suc at) rest) (h at) (scan-told faults h left (suc at) rest later)

  pick : (b : Bool) (x y : Acceptance) → (b ≡ true → Fine x) → (b ≡ false → Fine y) → Fine (cond b x y)
  pick true x y f g = f refl
  pick false x y f g = g refl

empty_or : (a b : Bool) → a || not b ≡ true → not a && (b && true) ≡ false
empty_or true b e = refl
empty_or false true e = never e
empty_or false false e = refl

pub table_told : TableTold
unfolding admission_within Fine Fault reasons table_reasons term_reasons
table_told limit h t sheet values cells allowance =
    let last = pred (terms t) in
    pick t sheet values cells allowance (eqb (length t) 0 || not (eqb (length t % words) 0)) _ _
    (λ e. told_of t sheet values cells allowance 1 0 _ refl (empty_or (eqb (length t) 0) (eqb (length t % words) 0) e))
    (λ _.
    pick t sheet values cells allowance (ltb limit (terms t)) _ _
    (λ e. told_of t sheet values cells allowance 2 0 _ refl (one (not (ltb 512 (terms t))) (ap not (lt-ltb 512 (terms t) (omega (arith, ltb-true limit (terms t) e))))))
    (λ _.
    scan-told t sheet values cells allowance (fault t) (fault-told t sheet values cells allowance) (terms t) 0 _
    (pick t sheet values cells allowance (boolean (sort_at t last)) _ _ (λ _. tt) (λ e. told_of t sheet values cells allowance 10 last _ refl (one (boolean (sort_at t last)) e)))))

pub setting_told : SettingTold
unfolding check Fine reasons setting_reasons
setting_told t sheet values cells allowance =
    pick t sheet values cells allowance (not (eqb (length cells % 3) 0)) _ _
    (λ e. told_of t sheet values cells allowance 11 0 _ refl (one (eqb (length cells % 3) 0) (not-true (eqb (length cells % 3) 0) e)))
    (λ _.
    scan-told t sheet values cells allowance (λ k. variable_fault values (term_at t k)) (variable_told t sheet values cells allowance) (terms t) 0 _
    (scan-told t sheet values cells allowance (λ k. cell_fault t (cell_at cells k)) (cell-told t sheet values cells allowance) (cell_count cells) 0 accepted tt))

pub sheet_told : SheetTold
unfolding sheet_check Fine reasons
sheet_told t sheet values cells allowance =
    let n = line_count sheet in
    let l = line_at sheet n in
    scan-told t sheet values cells allowance (λ k. line_fault (line_at sheet k)) (line-told t sheet values cells allowance) n 0 _
    (pick t sheet values cells allowance (eqb (length sheet % 3) 0) _ _ (λ _. tt) (λ _. told_of t sheet values cells allowance 16 n _ refl (ap (λ (b : Bool). b && pass (mark_lines l.kind l.lowest l.highest)) (le-ltb n n (omega arith)))))

pub allowance_told : AllowanceTold
unfolding reasons setting_reasons
allowance_told t sheet values cells allowance steps h = told_of t sheet values cells allowance 23 steps _ refl (one (leb steps allowance) (lt-leb steps allowance h))
