-- Fewer marks never make a free term unfree: the condition is monotone in what is not marked.
-- Assumes nothing.
use Rattle.std.specs.Prelude.{◌≡◌, Bool, true, List, ℕ}
use Rattle.ops.specs.Laws.{Implied}
use Rattle.table.specs.declared.words.Term.{Term}
use Rattle.setting.specs.Interpretation.{Interpretation}
use Rattle.judge.specs.Conditions.{Condition, condition_at}
use Rattle.judge.specs.Judgement.{rule_condition}

-- Every term that is marked under the first marks is marked under the second.
abbrev pub Fewer : (Term → Bool) → (Term → Bool) → Type 0
Fewer marked marked' = (x : Term) → marked x ≡ true → marked' x ≡ true

-- Where the first condition is true the second is; so too of a read at each index, whose own condition may turn true.
pub record Freer (c c' : Condition) : Type 0 where
  pub whole : Implied c.free c'.free
  pub read : (j : ℕ) (d d' : Bool) → Implied d d' → Implied (c.read_free j d) (c'.read_free j d')

-- Of every table, admitted or not, in every interpretation, for every term.
abbrev pub FewerMarks : Type 0
FewerMarks =
    (w : List ℕ) (marked marked' : Term → Bool) (I : Interpretation) → Fewer marked marked'
    → (k : ℕ) → Freer (condition_at w marked' I k) (condition_at w marked I k)

-- So of the rule.
abbrev pub FewerMarksRule : Type 0
FewerMarksRule =
    (w : List ℕ) (marked marked' : Term → Bool) (I : Interpretation) → Fewer marked marked'
    → rule_condition w marked' I ≡ true → rule_condition w marked I ≡ true
