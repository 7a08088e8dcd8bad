-- The parser's steps follow the words: expressions and their operands.
-- Assumes nothing.
use Rattle.parser.specs.declared.states.Fault.{Fault}
use Rattle.parser.specs.declared.states.Fault.TheVariants as fault_kind
use mathlib.Core.Path.{◌≡◌, refl, sym, ap, ◌∙◌}
use mathlib.Core.Bool.{Bool, true, false, cond}
use mathlib.Core.List.{List, [], ◌∷◌}
use Prim.Native.Nat.{ℕ, zero, suc, ◌+◌, ◌<◌}
use native.Mathlib.Nat.{pos_of_ne-zero}
use native.Mathlib.Omega.{arith}
use lib.Dec.{eqb, leb}
use lib.ListN.{length}
use borrow.Author.Tests.{eq-eqb, ne_eqb, eqb-true, eqb-false, lt-ltb, le-ltb, le-leb, lt-leb, leb-false}
use Rattle.smtlib.specs.Bytes.{is_in}
use Rattle.std.specs.Prelude.{Option}
use Rattle.parser.specs.declared.words.SortName.{SortName}
use Rattle.parser.specs.declared.words.Word.{Word}
use Rattle.parser.specs.declared.words.Word.TheVariants.{Open, Close, Keyword, Operator, Literal, Width, Name, Other, End}
use Rattle.parser.specs.declared.words.Token.{Token}
use Rattle.parser.specs.declared.states.State.{State}
use Rattle.parser.specs.declared.states.Listed.{Listed}
use Rattle.parser.specs.declared.states.Head.{Head}
use Rattle.parser.specs.declared.states.Head.TheVariants.{Done, Constant, Call}
use Rattle.parser.specs.Words.{token_at}
use Rattle.parser.specs.Names.{declared}
use Rattle.parser.specs.Expressions.{fault_number, fault_in, Work, Listing, faulty_at, operator_in, head_in, head_of, begin_list, joined_to, closed_in, closed_state, operands_by, operands_of, expression_of}
use Rattle.parser.proofs.Choices.{by_test}
use Rattle.parser.proofs.Accepts.{Known, declared_is, joined_state, done_at, constant_at, call_at}
use Rattle.parser.proofs.Wanted.{bytes_at}
use Rattle.prefixes.specs.Spelling.{is_end, spelt_at}
use Rattle.prefixes.specs.Prefixes.{Level, Place, Spot, counted, deepest, full, refusal}
use Rattle.prefixes.specs.Prefixes.Place.{operand, operator}
use Rattle.prefixes.proofs.Spellings.{first, first-refused, first-passed}
use Rattle.prefixes.proofs.Following.{Leads, here, held, same, stopped, then, at_place}

module _ (text : List ℕ) (names : List (List ℕ)) (count : ℕ) (known : Known text count names) (asserted : Bool) where
  abbrev spot : Place → Spot
  spot p = at_place text names asserted p

  -- How an expression begins

  Begins : List Level → State → ℕ → Head → Type 0
  Begins ls s levels (Done v) = Leads text (spot (operand ls)) s.at v (spot (counted ls))
  Begins ls s levels (Constant n v next) = first text (spot (operand ls)) s.at ≡ first text (spot (counted ls)) next
  Begins ls s levels (Call op next) =
      (0 < levels) × (first text (spot (operand ls)) s.at ≡ first text (spot (operand (record { op = op; operands = 0 } ∷ ls))) next)

  module _ (ls : List Level) (s : State) (levels : ℕ) (deep : length ls + levels ≡ 64) (free : full ls ≡ false) (clean : fault_in s ≡ 0) where
    abbrev t : Token
    t = token_at text s.at

    abbrev second : Token
    second = token_at text t.next

    stop : (n : Fault) → refusal (spot (operand ls)) (spelt_at text s.at) ≡ fault_number n
        → Leads text (spot (operand ls)) s.at (faulty_at s n t.from) (spot (counted ls))
    stop n r = stopped (spot (counted ls)) n (here text (spot (operand ls)) s clean) clean r

    on_open : 0 < levels → t.word ≡ Open → first text (spot (operand ls)) s.at ≡ first text (spot (operator ls)) t.next
    on_open h e =
        first-passed text s.at (spot (operand ls)) (let d = lt-leb deepest (length ls) (omega arith) in rw (e, d, free)) (ap is_end e) ∙ rw e

    stop_second : 0 < levels → t.word ≡ Open → refusal (spot (operator ls)) (spelt_at text t.next) ≡ 31
        → Leads text (spot (operand ls)) s.at (faulty_at s fault_kind.Unexpected second.from) (spot (counted ls))
    stop_second h e r =
        record { faulty = λ z. on_open h e ∙ first-refused text t.next (spot (operator ls)) fault_kind.Unexpected r; clean = λ z. absurd (omega arith) }

    begins_operator : 0 < levels → t.word ≡ Open → (w : Word) → second.word ≡ w → Begins ls s levels (operator_in s second w)
    unfolding Begins
    begins_operator h e Open f = stop_second h e (rw f)
    begins_operator h e Close f = stop_second h e (rw f)
    begins_operator h e (Keyword k) f = stop_second h e (rw f)
    begins_operator h e (Operator op) f = (h, on_open h e ∙ first-passed text t.next (spot (operator ls)) (rw f) (ap is_end f) ∙ rw f)
    begins_operator h e (Literal n v) f = stop_second h e (rw f)
    begins_operator h e (Width n) f = stop_second h e (rw f)
    begins_operator h e (Name k) f = stop_second h e (rw f)
    begins_operator h e Other f = stop_second h e (rw f)
    begins_operator h e End f = stop_second h e (rw f)

    begins_open : t.word ≡ Open → Begins ls s levels (cond (eqb levels 0) (Done (faulty_at s fault_kind.TooDeep t.from)) (operator_in s second second.word))
    unfolding Begins
    begins_open e =
        by_test (Begins ls s levels) (eqb levels 0)
        (λ z. stop fault_kind.TooDeep (let d = le-leb deepest (length ls) (omega (arith, eqb-true levels 0 z)) in rw (e, d)))
        (λ z. begins_operator (pos_of_ne-zero (eqb-false levels 0 z)) e second.word refl)

    begins_name : (k : Option SortName) → t.word ≡ Name k → Begins ls s levels (head_in text count s levels t second (Name k))
    unfolding Begins
    begins_name k e =
        let w = bytes_at text s.at in
        let d : declared text count w ≡ is_in names w = declared_is known w in
        by_test (λ (v : State). Leads text (spot (operand ls)) s.at v (spot (counted ls))) (declared text count w)
        (λ f. let g : is_in names w ≡ true = sym d ∙ f in
        record { faulty = λ n. absurd (n refl); clean = λ z. first-passed text s.at (spot (operand ls)) (rw (e, g, free)) (ap is_end e) ∙ rw e })
        (λ f. stop fault_kind.Undeclared (let g : is_in names w ≡ false = sym d ∙ f in rw (e, g)))

  -- a closing parenthesis for an operand: too few in a list, and no list outside of lists
  begins_close : (ls : List Level) (s : State) (levels : ℕ) → length ls + levels ≡ 64 → full ls ≡ false → fault_in s ≡ 0
      → (token_at text s.at).word ≡ Close
      → Begins ls s levels (head_in text count s levels (token_at text s.at) (token_at text (token_at text s.at).next) Close)
  unfolding Begins
  begins_close [] s levels deep free clean e = rw (le-ltb levels 64 (omega arith)) (stop [] s levels deep free clean fault_kind.Unexpected (rw e))
  begins_close (l ∷ ls) s levels deep free clean e =
      let few = leb-false (operands_of l.op) l.operands free in
      let n : eqb l.operands (operands_of l.op) ≡ false = ne_eqb l.operands (operands_of l.op) (λ z. omega (arith, few, z)) in
      rw (lt-ltb levels 64 (omega arith)) (stop (l ∷ ls) s levels deep free clean fault_kind.Miscounted (rw (e, n)))

  module _ (ls : List Level) (s : State) (levels : ℕ) (deep : length ls + levels ≡ 64) (free : full ls ≡ false) (clean : fault_in s ≡ 0) where
    begins_in : (w : Word) → (token_at text s.at).word ≡ w
        → Begins ls s levels (head_in text count s levels (token_at text s.at) (token_at text (token_at text s.at).next) w)
    unfolding Begins
    begins_in Open e = begins_open ls s levels deep free clean e
    begins_in Close e = begins_close ls s levels deep free clean e
    begins_in (Keyword k) e = stop ls s levels deep free clean fault_kind.Unexpected (rw e)
    begins_in (Operator op) e = stop ls s levels deep free clean fault_kind.Unexpected (rw e)
    begins_in (Literal n v) e = first-passed text s.at (spot (operand ls)) (rw (e, free)) (ap is_end e) ∙ rw e
    begins_in (Width n) e = stop ls s levels deep free clean fault_kind.Unexpected (rw e)
    begins_in (Name k) e = begins_name ls s levels deep free clean k e
    begins_in Other e = stop ls s levels deep free clean fault_kind.Unexpected (rw e)
    begins_in End e = stop ls s levels deep free clean fault_kind.Unexpected (rw e)

    begins : Begins ls s levels (head_of text count s levels)
    unfolding head_of
    begins = rw (eq-eqb _ _ clean) (begins_in (token_at text s.at).word refl)

  -- How a list ends

  module _ (l : Level) (ls : List Level) (s : State) (levels : ℕ) (deep : length (l ∷ ls) + levels ≡ 64) (all : l.operands ≡ operands_of l.op) (clean : fault_in s ≡ 0) where
    abbrev Closes : State → Type 0
    Closes v = Leads text (spot (operand (l ∷ ls))) s.at v (spot (counted ls))

    halt : (n : Fault) → refusal (spot (operand (l ∷ ls))) (spelt_at text s.at) ≡ fault_number n → Closes (faulty_at s n (token_at text s.at).from)
    halt n r = stopped (spot (counted ls)) n (here text (spot (operand (l ∷ ls))) s clean) clean r

    filled : leb (operands_of l.op) l.operands ≡ true
    filled = le-leb (operands_of l.op) l.operands (omega arith)

    closes_open : (token_at text s.at).word ≡ Open → Closes (closed_in text count s levels (token_at text s.at) Open)
    closes_open e = go (eqb levels 0) refl
      where
        go : (b : Bool) → eqb levels 0 ≡ b → Closes (faulty_at s (cond b fault_kind.TooDeep fault_kind.Miscounted) (token_at text s.at).from)
        go true z = halt fault_kind.TooDeep (let d = le-leb deepest (suc (length ls)) (omega (arith, eqb-true levels 0 z)) in rw (e, d))
        go false z = halt fault_kind.Miscounted (let d = lt-leb deepest (suc (length ls)) (omega (arith, pos_of_ne-zero (eqb-false levels 0 z))) in rw (e, d, filled))

    closes_name : (k : Option SortName) → (token_at text s.at).word ≡ Name k → Closes (closed_in text count s levels (token_at text s.at) (Name k))
    closes_name k e = go (declared text count (bytes_at text s.at)) refl
      where
        go : (b : Bool) → declared text count (bytes_at text s.at) ≡ b → Closes (faulty_at s (cond b fault_kind.Miscounted fault_kind.Undeclared) (token_at text s.at).from)
        go true z =
            halt fault_kind.Miscounted (let g : is_in names (bytes_at text s.at) ≡ true = sym (declared_is known (bytes_at text s.at)) ∙ z in rw (e, g, filled))
        go false z = halt fault_kind.Undeclared (let g : is_in names (bytes_at text s.at) ≡ false = sym (declared_is known (bytes_at text s.at)) ∙ z in rw (e, g))

    closes_in : (w : Word) → (token_at text s.at).word ≡ w → Closes (closed_in text count s levels (token_at text s.at) w)
    closes_in Open e = closes_open e
    closes_in Close e =
        record {
          faulty = λ n. absurd (n refl);
          clean = λ z. first-passed text s.at (spot (operand (l ∷ ls))) (rw (e, eq-eqb l.operands (operands_of l.op) all)) (ap is_end e)
              ∙ rw e;
        }
    closes_in (Keyword k) e = halt fault_kind.Unexpected (rw e)
    closes_in (Operator op) e = halt fault_kind.Unexpected (rw e)
    closes_in (Literal n v) e = halt fault_kind.Miscounted (rw (e, filled))
    closes_in (Width n) e = halt fault_kind.Unexpected (rw e)
    closes_in (Name k) e = closes_name k e
    closes_in Other e = halt fault_kind.Unexpected (rw e)
    closes_in End e = halt fault_kind.Unexpected (rw e)

  pub closes : {a : Spot} {at : ℕ} (l : Level) (ls : List Level) (v : Listed) (levels : ℕ) → length (l ∷ ls) + levels ≡ 64
      → l.operands ≡ operands_of l.op
      → Leads text a at v.state (spot (operand (l ∷ ls))) → Leads text a at (closed_state text count levels v) (spot (counted ls))
  unfolding closed_state
  closes {a} {at} l ls v levels deep all m =
      by_test (λ (u : State). Leads text a at u (spot (counted ls))) (eqb (fault_in v.state) 0)
      (λ f. then m (eqb-true _ _ f) (closes_in l ls v.state levels deep all (eqb-true _ _ f) (token_at text v.state.at).word refl))
      (λ f. held m (eqb-false _ _ f))

  -- Expressions with so many levels left

  Following : ℕ → Type 0
  Following levels = (ls : List Level) → length ls + levels ≡ 64 → full ls ≡ false → (s : State) (room : List ℕ) → fault_in s ≡ 0
      → Leads text (spot (operand ls)) s.at (expression_of levels text count s room).state (spot (counted ls))

  operands_follow : (levels : ℕ) → Following levels → (left op n : ℕ) (ls : List Level) → suc (length ls) + levels ≡ 64 → n + left ≡ operands_of op
      → (l : Listed) (room : List ℕ) → fault_in l.state ≡ 0
      → Leads text (spot (operand (record { op = op; operands = n } ∷ ls))) l.state.at (operands_by (expression_of levels text count) left l room).listed.state
      (spot (operand (record { op = op; operands = operands_of op } ∷ ls)))
  unfolding Following operands_by
  operands_follow levels below zero op n ls deep many l room f =
      let e : n ≡ operands_of op = omega arith in
      record { faulty = λ z. absurd (z f); clean = λ z. rw e refl }
  operands_follow levels below (suc left) op n ls deep many l room f =
      let v = expression_of levels text count l.state room in
      let j = joined_state l v.state in
      let m = below (record { op = op; operands = n } ∷ ls) deep (lt-leb (operands_of op) n (omega arith)) l.state room f in
      let ih = operands_follow levels below left op (suc n) ls deep (omega arith) (joined_to l v.state) v.room in
      by_test (λ (k : Listing). Leads text (spot (operand (record { op = op; operands = n } ∷ ls))) l.state.at k.listed.state
      (spot (operand (record { op = op; operands = operands_of op } ∷ ls)))) (eqb (fault_in v.state) 0)
      (λ e. let c = ap (λ (x : State). (fault_in x)) j ∙ eqb-true _ _ e in then (same j m) c (ih c))
      (λ e. same j (held m (eqb-false _ _ e)))

  module _ (levels : ℕ) (ls : List Level) (s : State) (room : List ℕ) where
    follows_done : (v : State) → head_of text count s levels ≡ Done v → Leads text (spot (operand ls)) s.at v (spot (counted ls))
        → Leads text (spot (operand ls)) s.at (expression_of levels text count s room).state (spot (counted ls))
    follows_done v e m = same (ap (λ (w : Work). w.state) (done_at text count levels s room v e)) m

    follows_constant : (n v next : ℕ) → head_of text count s levels ≡ Constant n v next
        → first text (spot (operand ls)) s.at ≡ first text (spot (counted ls)) next
        → Leads text (spot (operand ls)) s.at (expression_of levels text count s room).state (spot (counted ls))
    follows_constant n v next e m =
        same (ap (λ (w : Work). w.state) (constant_at text count levels s room n v next e))
        (record { faulty = λ z. absurd (z refl); clean = λ z. m })

  follows_zero : (ls : List Level) (s : State) (room : List ℕ) (h : Head) → head_of text count s 0 ≡ h → Begins ls s 0 h
      → Leads text (spot (operand ls)) s.at (expression_of 0 text count s room).state (spot (counted ls))
  unfolding Begins
  follows_zero ls s room (Done v) e m = follows_done 0 ls s room v e m
  follows_zero ls s room (Constant n v next) e m = follows_constant 0 ls s room n v next e m
  follows_zero ls s room (Call op next) e m = absurd (omega (arith, m.0))

  follows_suc : (levels : ℕ) → Following levels → (ls : List Level) → length ls + suc levels ≡ 64 → (s : State) (room : List ℕ) → fault_in s ≡ 0
      → (h : Head) → head_of text count s (suc levels) ≡ h → Begins ls s (suc levels) h
      → Leads text (spot (operand ls)) s.at (expression_of (suc levels) text count s room).state (spot (counted ls))
  unfolding Begins
  follows_suc levels below ls deep s room f (Done v) e m = follows_done (suc levels) ls s room v e m
  follows_suc levels below ls deep s room f (Constant n v next) e m = follows_constant (suc levels) ls s room n v next e m
  follows_suc levels below ls deep s room f (Call op next) e m =
      let o = operands_follow levels below (operands_of op) op 0 ls (omega arith) (omega arith) (begin_list s next) room f in
      let v = (operands_by (expression_of levels text count) (operands_of op) (begin_list s next) room).listed in
      let all = closes (record { op = op; operands = operands_of op }) ls v levels (omega arith) refl o in
      same (ap (λ (w : Work). w.state) (call_at text count levels s room op next e))
      (record { faulty = λ n. m.1 ∙ all.faulty n; clean = λ z. m.1 ∙ all.clean z })

  follows : (levels : ℕ) → Following levels
  unfolding Following
  follows zero ls deep free s room f = follows_zero ls s room (head_of text count s 0) refl (begins ls s 0 deep free f)
  follows (suc levels) ls deep free s room f =
      follows_suc levels (follows levels) ls deep s room f (head_of text count s (suc levels)) refl (begins ls s (suc levels) deep free f)

  -- an assert's expression
  pub expression : (s : State) (room : List ℕ) → fault_in s ≡ 0
      → Leads text (spot (operand [])) s.at (expression_of 64 text count s room).state (spot (counted []))
  unfolding Following
  expression s room f = follows 64 [] refl refl s room f
