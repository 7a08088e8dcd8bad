-- What is asked of a rule besides the grammar (32 to 35), and the table that it becomes: Req 02, "The table holds the declared variables
-- first, then each expression's operands left to right before their operator, nothing shared, each join after its second assert".
-- Assumes nothing.
use Rattle.std.specs.Prelude.{Bool, true, false, not, ◌&&◌, List, [], ◌∷◌, ◌++◌, ℕ, zero, suc, ◌+◌, eqb, ltb, length, get_or}
use Rattle.ops.specs.Numbers.{op_of}
use Rattle.smtlib.specs.Bytes.{place_in, is_in}
use Rattle.table.specs.declared.words.Sort.{Sort}
use Rattle.table.specs.declared.words.Term.{Term}
use Rattle.table.specs.Ranks.{rank_of}
use Rattle.parser.specs.Words.{marked}
use Rattle.parser.specs.Expressions.{sort_by, operands_of, constant_term}
use Rattle.parser.specs.Rules.{variable_term, and_term}
use Rattle.parser.specs.Grammar.{Tree, Trees, Declared, Rule}
use Rattle.parser.specs.Grammar.Tree.{literal, symbol, apply}
use Rattle.parser.specs.Grammar.Trees.{nil, cons}

-- Conditions

abbrev pub names_of : List Declared → List (List ℕ)
names_of [] = []
names_of (d ∷ ds) = d.name ∷ names_of ds

-- 32: no name is declared twice; every operand's name is declared
unfoldable pub distinct : List (List ℕ) → Bool
distinct [] = true
distinct (w ∷ ws) = not (is_in ws w) && distinct ws

unfoldable mutual
  pub knows : List (List ℕ) → Tree → Bool
  knows ws (literal n v) = true
  knows ws (symbol w) = is_in ws w
  knows ws (apply op ts) = knows_all ws ts

  pub knows_all : List (List ℕ) → Trees → Bool
  knows_all ws nil = true
  knows_all ws (cons t ts) = knows ws t && knows_all ws ts

-- 33: at most so many parentheses are open
unfoldable mutual
  pub within : ℕ → Tree → Bool
  within levels (literal n v) = true
  within levels (symbol w) = true
  within zero (apply op ts) = false
  within (suc levels) (apply op ts) = all_within levels ts

  pub all_within : ℕ → Trees → Bool
  all_within levels nil = true
  all_within levels (cons t ts) = within levels t && all_within levels ts

-- 34: each operator has as many operands as it takes
unfoldable pub count : Trees → ℕ
count nil = 0
count (cons t ts) = suc (count ts)

unfoldable mutual
  pub counted : Tree → Bool
  counted (literal n v) = true
  counted (symbol w) = true
  counted (apply op ts) = eqb (count ts) (operands_of op) && all_counted ts

  pub all_counted : Trees → Bool
  all_counted nil = true
  all_counted (cons t ts) = counted t && all_counted ts

unfoldable pub every_tree : (Tree → Bool) → List Tree → Bool
every_tree test [] = true
every_tree test (t ∷ ts) = test t && every_tree test ts

-- 32 to 35
abbrev pub meets : Rule → Bool
meets r =
    distinct (names_of r.declarations)
    && every_tree (knows (names_of r.declarations)) r.asserts
    && every_tree (within 64) r.asserts
    && every_tree counted r.asserts
    && ltb 0 (length r.asserts)

-- The table

-- the terms of a tree, where count terms stand before, and the number of its own
unfoldable mutual
  pub size : Tree → ℕ
  size (literal n v) = 1
  size (symbol w) = 0
  size (apply op ts) = suc (sizes ts)

  pub sizes : Trees → ℕ
  sizes nil = 0
  sizes (cons t ts) = size t + sizes ts

module _ (ds : List Declared) where
  -- the number of a name's variable
  abbrev pub slot : List ℕ → ℕ
  slot w = place_in (names_of ds) w

  abbrev pub sort_of_slot : ℕ → Sort
  sort_of_slot i = (get_or ds i (record { name = []; sort = record { m = 0; n = 0 } })).sort

  unfoldable pub root : ℕ → Tree → ℕ
  root before (literal n v) = before
  root before (symbol w) = slot w
  root before (apply op ts) = before + sizes ts

  unfoldable pub roots : ℕ → Trees → List ℕ
  roots before nil = []
  roots before (cons t ts) = root before t ∷ roots (before + size t) ts

  -- the sort of a tree
  unfoldable mutual
    pub sort_in : Tree → Sort
    sort_in (literal n v) = record { m = 0; n = n }
    sort_in (symbol w) = sort_of_slot (slot w)
    sort_in (apply op ts) = sort_by (rank_of (op_of op)) (first_sort ts) (second_sort ts)

    pub first_sort : Trees → Sort
    first_sort nil = record { m = 0; n = 0 }
    first_sort (cons t ts) = sort_in t

    pub second_sort : Trees → Sort
    second_sort nil = record { m = 0; n = 0 }
    second_sort (cons t ts) = first_sort ts

  abbrev pub list_term : ℕ → Sort → List ℕ → Term
  list_term op s rs = record { op = op; sort = s; p = get_or rs 0 0; q = get_or rs 1 0; r = get_or rs 2 0 }

  unfoldable mutual
    pub tree_terms : ℕ → Tree → List Term
    tree_terms before (literal n v) = constant_term n v ∷ []
    tree_terms before (symbol w) = []
    tree_terms before (apply op ts) = trees_terms before ts ++ (list_term op (sort_in (apply op ts)) (roots before ts) ∷ [])

    pub trees_terms : ℕ → Trees → List Term
    trees_terms before nil = []
    trees_terms before (cons t ts) = tree_terms before t ++ trees_terms (before + size t) ts

  -- the declared variables, from slot i on
  unfoldable pub variables : ℕ → List Declared → List Term
  variables i [] = []
  variables i (d ∷ more) = variable_term d.sort.m d.sort.n i (marked d.name) ∷ variables (suc i) more

  -- each further assert after the terms before it, and its join with the rule so far
  unfoldable pub joins : ℕ → ℕ → List Tree → List Term
  joins before rule [] = []
  joins before rule (t ∷ ts) =
      tree_terms before t ++ (and_term rule (root before t) ∷ joins (suc (before + size t)) (before + size t) ts)

  -- a sole assert of a name is joined with itself
  abbrev pub alone : ℕ → Tree → List Term
  alone before (literal n v) = tree_terms before (literal n v)
  alone before (symbol w) = and_term (slot w) (slot w) ∷ []
  alone before (apply op ts) = tree_terms before (apply op ts)

  abbrev pub asserted : ℕ → List Tree → List Term
  asserted before [] = []
  asserted before (t ∷ []) = alone before t
  asserted before (t ∷ u ∷ us) = tree_terms before t ++ joins (before + size t) (root before t) (u ∷ us)

abbrev pub rule_terms : Rule → List Term
rule_terms r = variables r.declarations 0 r.declarations ++ asserted r.declarations (length r.declarations) r.asserts
