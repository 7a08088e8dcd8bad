-- The slots of the variables on the way mend the rule.
-- Assumes nothing.
use Rattle.std.specs.Prelude.{Ok, Err}
use mathlib.Core.Path.{◌≡◌, refl, sym, ap, ap₂, ◌∙◌}
use mathlib.Core.Bool.{Bool, true, false, not, ◌&&◌}
use mathlib.Core.List.{List}
use Prim.Native.Nat.{ℕ, zero, suc, pred, ◌<◌}
use native.Mathlib.Nat.{not-suc-le-zero}
use native.Mathlib.Omega.{arith}
use lib.Dec.{leb}
use borrow.Author.Tests.{leb-true}
use Rattle.ops.specs.Numbers.{op_of}
use Rattle.ops.proofs.Booleans.{never, and_parts, and_shut}
use Rattle.table.specs.declared.words.Term.{Term}
use Rattle.table.specs.Terms.{terms, term_at}
use Rattle.table.specs.Faults.{is_variable}
use Rattle.table.specs.WellFormed.{WellFormed}
use Rattle.table.proofs.Admitted.{admission-sound}
use Rattle.table.proofs.TermFaults.{slot-valued}
use Rattle.setting.specs.Cells.{look}
use Rattle.setting.specs.Interpretation.{Interpretation, interpret}
use Rattle.evaluate.specs.Evaluation.{Evaluation}
use Rattle.evaluate.specs.Evaluation.{evaluates, ready}
use Rattle.evaluate.proofs.Answers.{passed}
use Rattle.judge.specs.Judgement.{Judgement}
use Rattle.judge.specs.Judgement.{rule_in, rule_condition, verdict}
use Rattle.judge.specs.Conditions.{condition_at}
use Rattle.judge.specs.Marks.{Fewer}
use Rattle.judge.specs.Code.Labelled.{truth_in}
use Rattle.judge.proofs.Marks.{fewer_marks}
use Rattle.explain.specs.Sources.{support, names}
use Rattle.explain.specs.Ways.{on_way}
use Rattle.explain.specs.Repairs.{named, left_marked}
use Rattle.explain.specs.Laws.{MarkedOn, way_in, repair_in, Repair, Passing, RepairPasses}
use Rattle.explain.proofs.Supports.{lower-support, support_suffices}
use Rattle.explain.proofs.Causes.{vs, ts, truth_at, input-marked, on_way_lem, way_is_whole}
use Rattle.explain.proofs.Named.{named_on, on_named}

-- a mark is left where its slot is not named
taken_away : (m n : Bool) → m ≡ true → (m && not n) ≡ false → n ≡ true
taken_away true true h e = refl
taken_away true false h e = never (sym e)
taken_away false n h e = never h

module _ (w : List ℕ) (marked : Term → Bool) (I : Interpretation) (f : WellFormed 512 w) where
  abbrev way : List ℕ
  way = way_in w marked I

  abbrev row : List ℕ
  row = repair_in w marked I

  abbrev left : Term → Bool
  left = left_marked marked row

  fewer : Fewer left marked
  fewer x h = (and_parts (marked x) (not (named row x.p)) h).0

  -- a term that is free stays free
  still : (k : ℕ) → k < terms w → truth_in (ts 512 w marked I f) k ≡ true → (condition_at w left I k).free ≡ true
  still k b h = (fewer_marks w left marked I fewer k).whole (sym (truth_at 512 w marked I f k b) ∙ h)

  -- a variable on the way has a named slot: its mark is gone
  unmarked : (k : ℕ) → k < terms w → on_way way k ≡ true → is_variable (term_at w k) ≡ true → left (term_at w k) ≡ false
  unmarked k b o v =
      let x = term_at w k in
      let small = leb-true x.p 255 (and_parts (leb x.p 255) (leb x.q 1) (sym (slot-valued (op_of x.op) x v) ∙ (f.sound k b).is_valued)).0 in
      let n = on_named w way (terms w) k b o v (omega arith) in
      ap (λ (z : Bool). marked x && not z) n ∙ and_shut (marked x)

  -- a term on the way is free without the marks, by what it comes from
  mended : (m k : ℕ) → k < m → on_way way k ≡ true → (condition_at w left I k).free ≡ true
  mended zero k n o = absurd (not-suc-le-zero n)
  mended (suc m) k n o =
      let y = on_way_lem 512 w marked I f k o in
      let b = y.inside in
      support_suffices 512 w left I f k b y.plain y.unpicked (unmarked k b o)
      (λ i h.
      let low = (lower-support 512 w I f k b y.unpicked i h).below in
      source i h (omega arith) (truth_in (ts 512 w marked I f) i) refl (λ on. mended m i (omega arith) on))
    where
      source : (i : ℕ) → names (support w (vs 512 w marked I f) (term_at w k)) i ≡ true → i < terms w → (t : Bool) → truth_in (ts 512 w marked I f) i ≡ t
          → (on_way way i ≡ true → (condition_at w left I i).free ≡ true) → (condition_at w left I i).free ≡ true
      source i h b true e below = still i b e
      source i h b false e below = below ((way_is_whole w marked I f).blamed k i o (ap₂ ◌&&◌ h (ap not e)))

  rule_free : (t : Bool) → truth_in (ts 512 w marked I f) (pred (terms w)) ≡ t → (condition_at w left I (pred (terms w))).free ≡ true
  rule_free true e = let b = f.some in still (pred (terms w)) (omega arith) e
  rule_free false e = mended (suc (pred (terms w))) (pred (terms w)) (omega arith) ((way_is_whole w marked I f).rule e)

  from_way : (slot : ℕ) → named row slot ≡ true → MarkedOn w marked way slot
  from_way slot h =
      let on = named_on w way (terms w) slot h in
      let y = on_way_lem 512 w marked I f on.term on.way_on in
      record {
        term = on.term;
        on = on.way_on;
        input = on.input;
        is_marked = input-marked 512 w marked I f on.term y on.input;
        its = on.its;
      }

pub repair : Repair
repair w marked I f =
    record {
      fewer = fewer w marked I f;
      only = λ x h e. taken_away (marked x) (named (repair_in w marked I) x.p) h e;
      from_way = from_way w marked I f;
      condition = rule_free w marked I f (truth_in (ts 512 w marked I f) (pred (terms w))) refl;
    }

-- A setting that is judged, and in which the rule is true

-- what a judgement says of the rule; nothing is said by a refusal
abbrev said : Judgement → Bool
said (Ok v) = v.rule
said (Err r) = false

pub repair_passes : RepairPasses
repair_passes w marked values cells allowance room v judged holds =
    go (ready 512 w values cells 2 allowance room) (λ h. admission-sound 512 w (passed 512 w values cells 2 allowance room h).admitted) refl
    (ap said judged ∙ holds)
  where
    go : (e : Evaluation) → (evaluates e ≡ true → WellFormed 512 w) → ready 512 w values cells 2 allowance room ≡ e → said (verdict e w marked (interpret values (look cells))) ≡ true
        → Passing w (left_marked marked (repair_in w marked (interpret values (look cells)))) values cells allowance room
    go (Ok s) formed is rule =
        let I = interpret values (look cells) in
        let left = left_marked marked (repair_in w marked I) in
        record {
          verdict = record { rule = rule_in w I; condition = rule_condition w left I; steps = s.steps; left = s.left };
          judged = ap (λ (e : Evaluation). verdict e w left I) is;
          passed = ap₂ ◌&&◌ rule (repair w marked I (formed refl)).condition;
        }
    go (Err r) formed is rule = never rule
