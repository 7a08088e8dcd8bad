-- What a judgement comes to; what of a typed rule's term is told.
-- Assumes nothing.
use Rattle.std.specs.Prelude.{cond, ◌==◌}
use Rattle.diagnosis.specs.declared.reason.Part.TheVariants.{Whole, P, Q}
use Rattle.diagnosis.specs.declared.reason.Reason.{Reason}
use Rattle.diagnosis.specs.declared.reason.Reason.TheVariants.{WrongSort}
use Rattle.table.specs.declared.words.Term.{Term}
use Rattle.judge.specs.declared.Verdict.{Verdict}
use Rattle.report.specs.declared.verdicts.Outcome.{Outcome}
use Rattle.report.specs.declared.verdicts.Outcome.TheVariants.{Passes, RuleFalse, ConditionFalse, BothFalse}

-- whether the setting passes; if not, whether the rule alone is false, the condition alone, or both
abbrev pub outcome_of : Verdict → Outcome
outcome_of v = cond v.condition (cond v.rule Passes RuleFalse) (cond v.rule ConditionFalse BothFalse)

-- A typed list has the sort of its second operand where it is a choice, else of its first: where the term's own sort is at fault, that
-- operand is told.
abbrev pub by_operand : Reason → Term → Reason
by_operand (WrongSort Whole term found asked) x = WrongSort (cond (x.op == 7) Q P) (cond (x.op == 7) x.q x.p) found asked
by_operand reason x = reason
