-- What parsing promises of the text at hand: of a table, that it is a typed rule's, and what its value means; of a refusal, its number.
-- Assumes nothing.
use Rattle.std.specs.Prelude.{Ok, Err, ◌≡◌, true, List, ℕ, pred, ◌*◌, length}
use Rattle.ops.specs.Meaning.{bit}
use Rattle.table.specs.Terms.{words, terms}
use Rattle.table.specs.Admission.{admission}
use Rattle.setting.specs.Interpretation.{Interpretation, FitInputs}
use Rattle.evaluate.specs.Values.{value_at}
use Rattle.parser.specs.Parsing.{Parsing}
use Rattle.parser.specs.Parsing.{built}
use Rattle.parser.specs.Grammar.{Rule, Reads}
use Rattle.parser.specs.Trees.{meets, rule_terms}
use Rattle.parser.specs.Laws.{numbers_of, Storable}
use Rattle.meanings.specs.Meaning.{rule_holds}
use Rattle.meanings.specs.Numbers.{parse_numbers}
use Rattle.table.specs.Answers.{accepted}

-- the rule that the text reads as; its table, which is admitted; the conjunction of its asserts
pub record Meant (text : List ℕ) (n : ℕ) : Type 0 where
  pub rule : Rule
  pub reads : Reads text rule
  pub met : meets rule ≡ true
  pub table : built text ≡ numbers_of (rule_terms rule)
  pub count : n ≡ length (rule_terms rule) * words
  pub admitted : admission (built text) ≡ accepted
  pub means : (I : Interpretation) → FitInputs (built text) I → (value_at (built text) I (pred (terms (built text)))).num ≡ bit (rule_holds rule I)

abbrev pub ParsingPromise : List ℕ → Parsing → Type 0
ParsingPromise text (Ok n) = Storable text → Meant text n
ParsingPromise text (Err r) = parse_numbers r.number ≡ true
