-- How many terms a rule's table has.
-- Assumes nothing.
use mathlib.Core.Path.{◌≡◌, refl, ◌∙◌}
use mathlib.Core.List.{List, [], ◌∷◌}
use Prim.Native.Nat.{ℕ, suc, ◌+◌}
use native.Mathlib.Omega.{arith}
use lib.ListN.{length, length-append}
use Rattle.parser.specs.Grammar.{Tree, Declared, Rule}
use Rattle.parser.specs.Grammar.Tree.{literal, symbol, apply}
use Rattle.parser.specs.Trees.{size, root, tree_terms, variables, joins, asserted, rule_terms}
use Rattle.parser.proofs.Written.{tree_length}
use Rattle.parser.proofs.Complete.{variables-length}

-- those that asserts after the first add; a sole bare name is joined with itself
abbrev joins_size : List Tree → ℕ
joins_size [] = 0
joins_size (u ∷ us) = size u + suc (joins_size us)

abbrev alone_size : Tree → ℕ
alone_size (literal n v) = 1
alone_size (symbol w) = 1
alone_size (apply op ts) = size (apply op ts)

abbrev pub asserts_size : List Tree → ℕ
asserts_size [] = 0
asserts_size (t ∷ []) = alone_size t
asserts_size (t ∷ u ∷ us) = size t + joins_size (u ∷ us)

joins-length : (ds : List Declared) (before rule : ℕ) (us : List Tree) → length (joins ds before rule us) ≡ joins_size us
unfolding joins
joins-length ds before rule [] = refl
joins-length ds before rule (u ∷ us) =
    length-append (tree_terms ds before u) _ ∙ omega (arith, tree_length ds before u, joins-length ds (suc (before + size u)) (before + size u) us)

asserts_length : (ds : List Declared) (before : ℕ) (ts : List Tree) → length (asserted ds before ts) ≡ asserts_size ts
unfolding tree_terms size joins
asserts_length ds before [] = refl
asserts_length ds before (literal n v ∷ []) = refl
asserts_length ds before (symbol w ∷ []) = refl
asserts_length ds before (apply op ts ∷ []) = tree_length ds before (apply op ts)
asserts_length ds before (t ∷ u ∷ us) =
    let later = joins ds (before + size t) (root ds before t) (u ∷ us) in
    length-append (tree_terms ds before t) later
    ∙ omega (arith, tree_length ds before t, joins-length ds (before + size t) (root ds before t) (u ∷ us))

pub rule_length : (r : Rule) → length (rule_terms r) ≡ length r.declarations + asserts_size r.asserts
rule_length r =
    let ds = r.declarations in
    length-append (variables ds 0 ds) (asserted ds (length ds) r.asserts)
    ∙ omega (arith, variables-length ds 0 ds, asserts_length ds (length ds) r.asserts)
