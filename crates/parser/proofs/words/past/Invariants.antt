use Rattle.std.proofs.Common.{length, ◌-◌, ◌≡◌, ℕ, Bool}
use Rattle.parser.specs.Words.{past}
use Rattle.parser.proofs.words.past.Given as goal

abbrev pub invariant-loop-i : goal.invariant-loop-i
invariant-loop-i g l = (f : ℕ → Bool) → ((b : ℕ) (passes : Bool) → goal.F-post g l.test b passes → passes ≡ f b) → past f l.text l.i ≡ past f l.text l.at

abbrev pub decreases-loop-i : goal.decreases-loop-i
decreases-loop-i g l = length l.text - l.i
