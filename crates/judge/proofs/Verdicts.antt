-- What a verdict leaves: of a refusal, of the room, and of the last term.
-- Assumes nothing.
use Rattle.std.specs.Prelude.{Ok, Err}
use mathlib.Core.Path.{◌≡◌, refl, sym, ap, ◌∙◌}
use mathlib.Core.Bool.{Bool, true, false}
use mathlib.Core.List.{List, ◌++◌}
use Prim.Native.Nat.{ℕ, pred, ◌+◌, ◌-◌, ◌*◌, ◌<◌}
use native.Mathlib.Omega.{arith}
use lib.ListN.{get_or, drop, length-append, get_or-append}
use lib.Seq.{get_or-append-add}
use Rattle.ops.specs.Meaning.{holds}
use Rattle.ops.proofs.Booleans.{never}
use Rattle.table.specs.declared.words.Term.{Term}
use Rattle.table.specs.Terms.{terms}
use Rattle.setting.specs.Interpretation.{Interpretation}
use Rattle.evaluate.specs.Evaluation.{Evaluation}
use Rattle.evaluate.specs.Evaluation.{evaluates}
use Rattle.evaluate.specs.Values.{value_at, numbers}
use Rattle.evaluate.proofs.Folds.{length-numbers, number_in, value-below}
use Rattle.setting.specs.Interpretation.{Value}
use Rattle.judge.specs.Conditions.{Condition, condition_at, truths}
use Rattle.judge.specs.Judgement.{rule_in, rule_condition, verdict_by, room_in}
use Rattle.judge.proofs.Alike.{condition_below}
use Rattle.judge.proofs.Meaning.{length-truths, truth_in_lem}

-- a refusal stands whatever rule and condition would be
pub stands : (e : Evaluation) (a b a' b' : Bool) → evaluates e ≡ false → verdict_by e a b ≡ verdict_by e a' b'
stands (Ok s) a b a' b' h = never (sym h)
stands (Err r) a b a' b' h = refl

pub room_kept : (e : Evaluation) (a b : Bool) (w : List ℕ) (marked : Term → Bool) (I : Interpretation) (room : List ℕ) → evaluates e ≡ false → room ≡ room_in (verdict_by e a b) w marked I room
room_kept (Ok s) a b w marked I room h = never (sym h)
room_kept (Err r) a b w marked I room h = refl

pub room_filled : (e : Evaluation) (a b : Bool) (w : List ℕ) (marked : Term → Bool) (I : Interpretation) (room : List ℕ) → evaluates e ≡ true
    → numbers w I (terms w) ++ truths w marked I (terms w) ++ drop (terms w * 2) room ≡ room_in (verdict_by e a b) w marked I room
room_filled (Ok s) a b w marked I room h = refl
room_filled (Err r) a b w marked I room h = never h

-- the last term's value and truth stand at the ends of the two fronts
module _ (w : List ℕ) (marked : Term → Bool) (I : Interpretation) (rest : List ℕ) (some : 0 < terms w) where
  abbrev n : ℕ
  n = terms w

  last_is : n - 1 ≡ pred n
  last_is = omega arith

  pub rule_read : holds (get_or (numbers w I n ++ truths w marked I n ++ rest) (n - 1) 0) ≡ rule_in w I
  rule_read =
      ap holds
      (get_or-append (numbers w I n ++ truths w marked I n) rest 0 (n - 1) (rw (length-append, length-numbers w I n) (omega arith))
      ∙ get_or-append (numbers w I n) (truths w marked I n) 0 (n - 1) (rw (length-numbers w I n) (omega arith))
      ∙ number_in w I n (n - 1)
      ∙ ap (λ (v : Value). v.num) (value-below w I n (n - 1) (omega arith))
      ∙ ap (λ (k : ℕ). (value_at w I k).num) last_is)

  pub condition_read : holds (get_or (numbers w I n ++ truths w marked I n ++ rest) (n + (n - 1)) 0) ≡ rule_condition w marked I
  condition_read =
      ap holds
      (get_or-append (numbers w I n ++ truths w marked I n) rest 0 (n + (n - 1)) (rw (length-append, length-numbers w I n, length-truths w marked I n) (omega arith))
      ∙ ap (λ (k : ℕ). get_or (numbers w I n ++ truths w marked I n) (k + (n - 1)) 0) (sym (length-numbers w I n))
      ∙ get_or-append-add (numbers w I n) (truths w marked I n) (n - 1) 0)
      ∙ truth_in_lem w marked I n (n - 1)
      ∙ ap (λ (c : Condition). c.free) (condition_below w marked I n (n - 1) (omega arith))
      ∙ ap (λ (k : ℕ). (condition_at w marked I k).free) last_is
