-- Names do not matter: a rule whose names are others, one to one and with the same marks, is the same table.
-- Assumes nothing.
use Rattle.std.specs.Prelude.{Ok, ◌≡◌, Bool, true, ◌&&◌, List, map, ℕ, eqb, length}
use Rattle.ops.specs.Meaning.{bit}
use Rattle.smtlib.specs.Bytes.{is_in}
use Rattle.table.specs.Folds.{every}
use Rattle.parser.specs.Words.{marked}
use Rattle.parser.specs.Parsing.{built, parsing, room_after}
use Rattle.parser.specs.Grammar.{Tree, Trees, Declared, Rule, Reads}
use Rattle.parser.specs.Grammar.Tree.{literal, symbol, apply}
use Rattle.parser.specs.Grammar.Trees.{nil, cons}
use Rattle.parser.specs.Trees.{names_of, distinct, meets}
use Rattle.parser.specs.Laws.{Storable}

module _ (f : List ℕ → List ℕ) where
  unfoldable mutual
    pub renamed_tree : Tree → Tree
    renamed_tree (literal n v) = literal n v
    renamed_tree (symbol w) = symbol (f w)
    renamed_tree (apply op ts) = apply op (renamed_trees ts)

    pub renamed_trees : Trees → Trees
    renamed_trees nil = nil
    renamed_trees (cons t ts) = cons (renamed_tree t) (renamed_trees ts)

  abbrev pub renamed_declaration : Declared → Declared
  renamed_declaration d = record { name = f d.name; sort = d.sort }

  abbrev pub renamed : Rule → Rule
  renamed r = record { declarations = map renamed_declaration r.declarations; asserts = map renamed_tree r.asserts }

  -- of these names no two become one, and each is marked as before
  pub record Renames (ws : List (List ℕ)) : Type 0 where
    pub one_to_one : (v w : List ℕ) → is_in ws v ≡ true → is_in ws w ≡ true → f v ≡ f w → v ≡ w
    pub marks : (w : List ℕ) → is_in ws w ≡ true → marked (f w) ≡ marked w

  -- the same as a test
  abbrev pub renames : List (List ℕ) → Bool
  renames ws = distinct (map f ws) && every (λ w. eqb (bit (marked (f w))) (bit (marked w))) ws

abbrev pub RenamesComputed : Type 0
RenamesComputed = (f : List ℕ → List ℕ) (ws : List (List ℕ)) → renames f ws ≡ true → Renames f ws

-- two texts are answered alike, with one table
pub record OneParsing (a b : List ℕ) : Type 0 where
  pub answer : (room : ℕ) → parsing a room ≡ parsing b room
  pub table : (room n : ℕ) → parsing a room ≡ Ok n → built a ≡ built b
  pub left : (room : List ℕ) → room_after (parsing a (length room)) a room ≡ room_after (parsing b (length room)) b room

-- The theorem. That the new names are names of the language is said by the second text's derivation; the names of operands are among the
-- declared ones by what the rule meets.
abbrev pub RenamedAlike : Type 0
RenamedAlike =
    (f : List ℕ → List ℕ) (r : Rule) → Renames f (names_of r.declarations) → meets r ≡ true
    → (a b : List ℕ) → Storable a → Storable b → Reads a r → Reads b (renamed f r) → OneParsing a b
