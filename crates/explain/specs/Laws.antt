-- What is proved of operands, of what a value comes from, of the way down and of a repair, as named statements. The
-- proofs are in proofs/.
-- Assumes nothing.
use Rattle.std.specs.Prelude.{Ok, ◌≡◌, Bool, true, false, cond, List, ◌⊎◌, ℕ, pred, ◌≤◌, ◌<◌, length}
use Rattle.ops.specs.declared.Op.{Op}
use Rattle.ops.specs.Condition.{settles}
use Rattle.table.specs.declared.words.Term.{Term}
use Rattle.table.specs.Terms.{terms, term_at}
use Rattle.table.specs.Faults.{is_variable, is_store, is_choice}
use Rattle.table.specs.WellFormed.{WellFormed}
use Rattle.setting.specs.Interpretation.{Interpretation, interpret}
use Rattle.setting.specs.Cells.{look}
use Rattle.evaluate.specs.Values.{numbers}
use Rattle.judge.specs.declared.Verdict.{Verdict}
use Rattle.judge.specs.Conditions.{condition_at, truths}
use Rattle.judge.specs.Judgement.{rule_condition, judgement_under, passes}
use Rattle.judge.specs.Marks.{Fewer}
use Rattle.judge.specs.Code.Labelled.{truth_in}
use Rattle.explain.specs.Operands.{would_settle}
use Rattle.explain.specs.Sources.{support, names, blames}
use Rattle.explain.specs.Ways.{on_way, way_of}
use Rattle.explain.specs.Repairs.{repair_of, named, left_marked}

-- An operand that is free and whose value settles the operator by itself makes the operator free.
abbrev pub FreeSettles : Type 0
FreeSettles =
    (op : Op) (n x y z : ℕ) (c d e second : Bool) → cond second d c ≡ true → would_settle op n (cond second y x) second ≡ true
    → settles op n x y z c d e ≡ true

-- What a value comes from suffices: of a well-formed table, under any marks, in any interpretation, a term whose
-- support is all free is free. It is no store, no choice between arrays, and no marked variable.
abbrev pub SupportSuffices : Type 0
SupportSuffices =
    (limit : ℕ) (w : List ℕ) (marked : Term → Bool) (I : Interpretation) → WellFormed limit w
    → (k : ℕ) → k < terms w → is_store (term_at w k) ≡ false → is_choice (term_at w k) ≡ false → (is_variable (term_at w k) ≡ true → marked (term_at w k) ≡ false)
    → ((i : ℕ) → names (support w (numbers w I (terms w)) (term_at w k)) i ≡ true → (condition_at w marked I i).free ≡ true)
    → (condition_at w marked I k).free ≡ true

-- It is short: a read passes at most 16 stores and choices.
abbrev pub FewSources : Type 0
FewSources = (limit : ℕ) (w values : List ℕ) → WellFormed limit w → (k : ℕ) → k < terms w → length (support w values (term_at w k)) ≤ 18

-- No term on the way is free.
abbrev pub OnlyUnfree : Type 0
OnlyUnfree = (w values truths : List ℕ) (n k : ℕ) → on_way (way_of w values truths n) k ≡ true → truth_in truths k ≡ false

-- Some term that term k blames.
pub record Blamed (w values truths : List ℕ) (k : ℕ) : Type 0 where
  pub term : ℕ
  pub is : blames w values truths k term ≡ true

-- Term i, which term k blames: an earlier term, no store and no choice between arrays, and not free.
pub record Beneath (w truths : List ℕ) (k i : ℕ) : Type 0 where
  pub below : i < k
  pub no_store : is_store (term_at w i) ≡ false
  pub no-choice : is_choice (term_at w i) ≡ false
  pub unfree : truth_in truths i ≡ false

-- Term k is a marked variable or blames a term; and what it blames is beneath it.
pub record GoesOn (w : List ℕ) (marked : Term → Bool) (values truths : List ℕ) (k : ℕ) : Type 0 where
  pub on : ((is_variable (term_at w k) ≡ true) × (marked (term_at w k) ≡ true)) ⊎ Blamed w values truths k
  pub beneath : (i : ℕ) → blames w values truths k i ≡ true → Beneath w truths k i

-- So the way ends at marked variables only: of a well-formed table, by the values and truths of any interpretation
-- under any marks, each term on the way goes on.
abbrev pub WayGoesOn : Type 0
WayGoesOn =
    (limit : ℕ) (w : List ℕ) (marked : Term → Bool) (I : Interpretation) → WellFormed limit w
    → (k : ℕ) → on_way (way_of w (numbers w I (terms w)) (truths w marked I (terms w)) (terms w)) k ≡ true
    → GoesOn w marked (numbers w I (terms w)) (truths w marked I (terms w)) k

-- The way is whole: the rule is on it, where it is not free, and so is what each term on it blames.
pub record Whole (w values truths : List ℕ) (n : ℕ) : Type 0 where
  pub rule : truth_in truths (pred n) ≡ false → on_way (way_of w values truths n) (pred n) ≡ true
  pub blamed : (k i : ℕ) → on_way (way_of w values truths n) k ≡ true → blames w values truths k i ≡ true → on_way (way_of w values truths n) i ≡ true

-- Of a table that judging takes, by the values and truths of any interpretation under any marks.
abbrev pub WayIsWhole : Type 0
WayIsWhole = (w : List ℕ) (marked : Term → Bool) (I : Interpretation) → WellFormed 512 w → Whole w (numbers w I (terms w)) (truths w marked I (terms w)) (terms w)

-- A marked variable on the way, of a slot.
pub record MarkedOn (w : List ℕ) (marked : Term → Bool) (way : List ℕ) (slot : ℕ) : Type 0 where
  pub term : ℕ
  pub on : on_way way term ≡ true
  pub input : is_variable (term_at w term) ≡ true
  pub is_marked : marked (term_at w term) ≡ true
  pub its : (term_at w term).p ≡ slot

-- A row of named slots mends a rule: marks are only taken away; only those of named slots; a slot is named only where
-- a marked variable on the way has it; and without these marks the rule's condition is true.
pub record Mends (w : List ℕ) (marked : Term → Bool) (I : Interpretation) (way row : List ℕ) : Type 0 where
  pub fewer : Fewer (left_marked marked row) marked
  pub only : (x : Term) → marked x ≡ true → left_marked marked row x ≡ false → named row x.p ≡ true
  pub from_way : (slot : ℕ) → named row slot ≡ true → MarkedOn w marked way slot
  pub condition : rule_condition w (left_marked marked row) I ≡ true

-- the way down and its slots, in an interpretation under marks
abbrev pub way_in : List ℕ → (Term → Bool) → Interpretation → List ℕ
way_in w marked I = way_of w (numbers w I (terms w)) (truths w marked I (terms w)) (terms w)

abbrev pub repair_in : List ℕ → (Term → Bool) → Interpretation → List ℕ
repair_in w marked I = repair_of w (way_in w marked I) (terms w)

-- Of a table that judging takes, under any marks, in any interpretation: the slots of the variables on the way mend
-- the rule.
abbrev pub Repair : Type 0
Repair = (w : List ℕ) (marked : Term → Bool) (I : Interpretation) → WellFormed 512 w → Mends w marked I (way_in w marked I) (repair_in w marked I)

-- A setting passes.
pub record Passing (w : List ℕ) (marked : Term → Bool) (values cells : List ℕ) (allowance room : ℕ) : Type 0 where
  pub verdict : Verdict
  pub judged : judgement_under marked w values cells allowance room ≡ Ok verdict
  pub passed : passes verdict ≡ true

-- So a setting that is judged, and in which the rule is true, passes without the marks of the named slots.
abbrev pub RepairPasses : Type 0
RepairPasses =
    (w : List ℕ) (marked : Term → Bool) (values cells : List ℕ) (allowance room : ℕ) (v : Verdict) → judgement_under marked w values cells allowance room ≡ Ok v → v.rule ≡ true
    → Passing w (left_marked marked (repair_in w marked (interpret values (look cells)))) values cells allowance room
