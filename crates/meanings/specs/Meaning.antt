-- What a typed rule means: the values of its trees in an interpretation of the declared names, each by its slot. Values are SMT-LIB's.
-- Assumes nothing.
use Rattle.std.specs.Prelude.{Ok, ◌≡◌, Bool, List, ℕ, zero, suc, pred}
use Rattle.ops.specs.Numbers.{op_of}
use Rattle.ops.specs.Meaning.{bit, holds}
use Rattle.table.specs.Terms.{terms}
use Rattle.setting.specs.Interpretation.{Value, Interpretation, FitInputs}
use Rattle.evaluate.specs.Values.{scalar_value, value_at}
use Rattle.evaluate.specs.Applied.{applied, input_value}
use Rattle.parser.specs.Parsing.{built, parsing}
use Rattle.parser.specs.Grammar.{Tree, Trees, Declared, Rule, Reads}
use Rattle.parser.specs.Grammar.Tree.{literal, symbol, apply}
use Rattle.parser.specs.Grammar.Trees.{nil, cons}
use Rattle.parser.specs.Trees.{slot, sort_of_slot, first_sort, every_tree}
use Rattle.parser.specs.Laws.{Storable}

module _ (ds : List Declared) (I : Interpretation) where
  -- of a tree; of operand i
  unfoldable mutual
    pub tree_value : Tree → Value
    tree_value (literal n v) = scalar_value v
    tree_value (symbol w) = input_value (sort_of_slot ds (slot ds w)) (I (slot ds w))
    tree_value (apply op ts) = applied (op_of op) (first_sort ds ts).n (λ i. operand_value ts i)

    pub operand_value : Trees → ℕ → Value
    operand_value nil i = scalar_value 0
    operand_value (cons t ts) zero = tree_value t
    operand_value (cons t ts) (suc i) = operand_value ts i

  abbrev pub tree_holds : Tree → Bool
  tree_holds t = holds (tree_value t).num

-- every assert is true
abbrev pub rule_holds : Rule → Interpretation → Bool
rule_holds r I = every_tree (tree_holds r.declarations I) r.asserts

-- The theorem: of every text that parses to a table, the rule's value is the conjunction of the asserts', in every interpretation that fits
-- the table's inputs.
abbrev pub RuleMeansAsserts : Type 0
RuleMeansAsserts =
    (text : List ℕ) → Storable text → (room n : ℕ) → parsing text room ≡ Ok n → (r : Rule) → Reads text r
    → (I : Interpretation) → FitInputs (built text) I → (value_at (built text) I (pred (terms (built text)))).num ≡ bit (rule_holds r I)
