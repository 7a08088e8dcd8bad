-- The scan of the declarations at a text's front finds each name and each end.
-- Assumes nothing.
use Rattle.std.specs.Prelude.{Option}
use mathlib.Core.Path.{◌≡◌, refl, sym, ap, ◌∙◌}
use mathlib.Core.Bool.{Bool, true, false, cond}
use mathlib.Core.List.{List, [], ◌∷◌}
use Prim.Native.Nat.{ℕ, suc, ◌+◌, ◌-◌, ◌<◌}
use native.Mathlib.Numerals.{add-one}
use native.Mathlib.Omega.{arith}
use lib.Dec.{eqb}
use lib.ListN.{length, drop, get_or}
use lib.Seq.{drop-cons, drop-drop}
use borrow.Author.Tests.{eqb-true, ne_eqb}
use Rattle.smtlib.specs.Bytes.{part, place_in}
use Rattle.table.specs.declared.words.Sort.{Sort}
use Rattle.parser.specs.declared.words.Keyword.{Keyword as OwnWord}
use Rattle.parser.specs.declared.words.SortName.{SortName}
use Rattle.parser.specs.declared.words.Word.{Word}
use Rattle.parser.specs.declared.words.Word.TheVariants.{Open, Close, Keyword, Width, Name}
use Rattle.parser.specs.declared.words.Keyword.TheVariants.{DeclareConst}
use Rattle.parser.specs.Words.{white, inside, ahead, past, token_at}
use Rattle.parser.specs.Names.{name_from, name_to, closing, declaration_end, index_from}
use Rattle.parser.specs.Grammar.{Declared, Stands, Named, Vector, Sorting, Declarations}
use Rattle.parser.specs.Grammar.Vector.{vector as vectored}
use Rattle.parser.specs.Grammar.Sorting.{bool, vector, array}
use Rattle.parser.specs.Grammar.Declarations.{none, more}
use Rattle.parser.specs.Trees.{names_of}
use Rattle.parser.proofs.Tokens.{Run, Bracket, opened, closed, Runs, runs}

-- Parentheses are counted word by word

-- where the scan ends, so many parentheses being open at a place
abbrev reach : List ℕ → ℕ → ℕ → ℕ
reach text depth at = at + closing depth (drop at text)

apart : (test : ℕ → Bool) (b c : ℕ) → test c ≡ false → test b ≡ true → eqb b c ≡ false
apart test b c f t = go (eqb b c) refl
  where
    go : (e : Bool) → eqb b c ≡ e → e ≡ false
    go true e = sym t ∙ ap test (eqb-true b c e) ∙ f
    go false e = refl

module _ (test : ℕ → Bool) (no-open : test 40 ≡ false) (no-close : test 41 ≡ false) where
  passed_by : (depth b : ℕ) (bs : List ℕ) (t : Bool) → test b ≡ t → closing depth bs ≡ ahead test bs + closing depth (drop (ahead test bs) bs)
      → closing depth (b ∷ bs) ≡ cond t (suc (ahead test bs)) 0 + closing depth (drop (cond t (suc (ahead test bs)) 0) (b ∷ bs))
  unfolding closing
  passed_by depth b bs true e h = rw (apart test b 40 no-open e, apart test b 41 no-close e) (ap suc h ∙ omega arith)
  passed_by depth b bs false e h = omega arith

  passed : (depth : ℕ) (l : List ℕ) → closing depth l ≡ ahead test l + closing depth (drop (ahead test l) l)
  unfolding closing ahead
  passed depth [] = refl
  passed depth (b ∷ bs) = passed_by depth b bs (test b) refl (passed depth bs)

  pass : (text : List ℕ) (depth at : ℕ) → reach text depth at ≡ reach text depth (past test text at)
  pass text depth at =
      let n = ahead test (drop at text) in
      ap (λ (k : ℕ). at + k) (passed depth (drop at text) ∙ ap (λ (l : List ℕ). n + closing depth l) (drop-drop n at text)) ∙ omega arith

-- a run leaves the count; parentheses change it; the last one ends the scan
reach_run : {text : List ℕ} {from to : ℕ} {w : Word} → (depth : ℕ) → Run w → Stands text from w to → reach text depth from ≡ reach text depth to
reach_run {text} {from} {to} depth r s =
    let q = runs text from (rw s.here r) in
    pass white refl refl text depth from ∙ pass inside refl refl text depth (past white text from) ∙ ap (reach text depth) (sym q.next ∙ s.after)

closing_at : (text : List ℕ) (depth at : ℕ) → at < length text → closing depth (drop at text) ≡ closing depth (get_or text at 0 ∷ drop (suc at) text)
closing_at text depth at h = ap (closing depth) (drop-cons text at 0 h)

module _ (text : List ℕ) (from : ℕ) where
  open_step : (depth : ℕ) → Bracket text from 40 → reach text depth from ≡ reach text (suc depth) (token_at text from).next
  unfolding closing
  open_step depth b =
      let at = past white text from in
      let h : closing depth (drop at text) ≡ suc (closing (suc depth) (drop (suc at) text)) = closing_at text depth at b.within ∙ rw (b.byte, add-one depth) in
      pass white refl refl text depth from ∙ rw (b.next, add-one at, h) (omega arith)

  close_step : (depth : ℕ) → Bracket text from 41 → reach text (suc (suc depth)) from ≡ reach text (suc depth) (token_at text from).next
  unfolding closing
  close_step depth b =
      let at = past white text from in
      let two : ℕ = suc (suc depth) in
      let less : two - 1 ≡ suc depth = omega arith in
      let h : closing two (drop at text) ≡ suc (closing (suc depth) (drop (suc at) text)) = closing_at text two at b.within ∙ rw (b.byte, ne_eqb two 1 (λ z. omega arith), less) in
      pass white refl refl text two from ∙ rw (b.next, add-one at, h) (omega arith)

  close_end : Bracket text from 41 → reach text 1 from ≡ (token_at text from).next
  unfolding closing
  close_end b =
      let at = past white text from in
      let h : closing 1 (drop at text) ≡ 1 = closing_at text 1 at b.within ∙ rw b.byte in
      pass white refl refl text 1 from ∙ ap (λ (k : ℕ). at + k) h ∙ sym b.next

reach_open : {text : List ℕ} {from to : ℕ} → (depth : ℕ) → Stands text from Open to → reach text depth from ≡ reach text (suc depth) to
reach_open {text} {from} depth s = open_step text from depth (opened text from s.here) ∙ ap (reach text (suc depth)) s.after

reach_close : {text : List ℕ} {from to : ℕ} → (depth : ℕ) → Stands text from Close to → reach text (suc (suc depth)) from ≡ reach text (suc depth) to
reach_close {text} {from} depth s = close_step text from depth (closed text from s.here) ∙ ap (reach text (suc depth)) s.after

reach_end : {text : List ℕ} {from to : ℕ} → Stands text from Close to → reach text 1 from ≡ to
reach_end {text} {from} s = close_end text from (closed text from s.here) ∙ s.after

-- Sorts balance

keyword_run : {k : OwnWord} → Run (Keyword k)
keyword_run = record { low = omega arith; high = omega arith }

name-run : {k : Option SortName} → Run (Name k)
name-run = record { low = omega arith; high = omega arith }

width-run : {n : ℕ} → Run (Width n)
width-run = record { low = omega arith; high = omega arith }

reach_vector : {text : List ℕ} {from n to : ℕ} → (depth : ℕ) → Vector text from n to → reach text (suc depth) from ≡ reach text (suc depth) to
reach_vector depth (vectored o k b w c) =
    let in_it : ℕ = suc (suc depth) in
    reach_open (suc depth) o ∙ reach_run in_it keyword_run k ∙ reach_run in_it name-run b ∙ reach_run in_it width-run w ∙ reach_close depth c

reach_sort : {text : List ℕ} {from to : ℕ} {s : Sort} → (depth : ℕ) → Sorting text from s to → reach text (suc depth) from ≡ reach text (suc depth) to
reach_sort depth (bool w) = reach_run (suc depth) name-run w
reach_sort depth (vector v) = reach_vector depth v
reach_sort depth (array o a m n c) =
    reach_open (suc depth) o ∙ reach_run (suc (suc depth)) name-run a ∙ reach_vector (suc depth) m ∙ reach_vector (suc depth) n ∙ reach_close depth c

-- A declaration's name and end

module _ {text : List ℕ} {from a b c d e : ℕ} {w : List ℕ} {s : Sort}
    (o : Stands text from Open a) (k : Stands text a (Keyword DeclareConst) b) (n : Named text b w c) (q : Sorting text c s d) (z : Stands text d Close e) where
  name_begins : name_from text from ≡ past white text b
  name_begins =
      let p = opened text from o.here in
      let r = runs text a (rw k.here keyword_run) in
      ap (λ (i : ℕ). past white text (past inside text (past white text i))) (sym p.next ∙ o.after) ∙ ap (past white text) (sym r.next ∙ k.after)

  name_runs : Runs text b
  name_runs = runs text b (rw n.stands.here name-run)

  pub name-ends : name_to text from ≡ c
  name-ends = ap (past inside text) name_begins ∙ sym name_runs.next ∙ n.stands.after

  pub name_is : part text (name_from text from) (name_to text from) ≡ w
  name_is =
      ap (λ (i : ℕ). part text i (past inside text i)) (name_begins ∙ sym name_runs.first)
      ∙ ap (part text (token_at text b).from) (ap (past inside text) name_runs.first ∙ sym name_runs.next) ∙ n.bytes_are

  pub declaration-ends : declaration_end text from ≡ e
  declaration-ends = ap (reach text 1) name-ends ∙ reach_sort 0 q ∙ reach_end z

-- the place of a word among the names
pub index_is : {text : List ℕ} {from to : ℕ} {ds : List Declared} → Declarations text from ds to → (w : List ℕ) → index_from (length ds) text from w ≡ place_in (names_of ds) w
unfolding index_from place_in
index_is none w = refl
index_is {text} (more {ds = ds} o k n s c more_of) w =
    rw (name_is o k n s c, declaration-ends o k n s c, index_is more_of w)
