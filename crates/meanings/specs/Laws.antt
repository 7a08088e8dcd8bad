-- What parsing answers for a text of the language, as named statements. The proofs are in proofs/.
-- Assumes nothing.
use Rattle.std.specs.Prelude.{Ok, Err, ◌≡◌, true, false, List, ◌++◌, ℕ, ◌*◌, ◌≤◌, length, drop}
use Rattle.table.specs.declared.Refusal.{Refusal}
use Rattle.table.specs.Terms.{words}
use Rattle.table.specs.Admission.{admission}
use Rattle.parser.specs.Parsing.{Parsing}
use Rattle.parser.specs.Parsing.{tabled, parsing, room_after}
use Rattle.parser.specs.Grammar.{Rule, Reads}
use Rattle.parser.specs.Trees.{meets, rule_terms}
use Rattle.parser.specs.Laws.{numbers_of, Storable}
use Rattle.table.specs.Answers.{accepted}

-- the answer is that of the rule's terms, and so is what is left in the room
pub record ParsesTo (text : List ℕ) (r : Rule) : Type 0 where
  pub answer : (room : ℕ) → parsing text room ≡ tabled (numbers_of (rule_terms r)) (length (rule_terms r)) room
  pub left : (room : List ℕ) (n : ℕ) → parsing text (length room) ≡ Ok n → room_after (Ok n) text room ≡ numbers_of (rule_terms r) ++ drop n room

pub record Refuses (answer : Parsing) : Type 0 where
  pub refusal : Refusal
  pub is : answer ≡ Err refusal

-- A text with a derivation: by its rule's terms where that meets 32 to 35, else a refusal.
pub record Parses (text : List ℕ) (r : Rule) : Type 0 where
  pub met : meets r ≡ true → ParsesTo text r
  pub unmet : meets r ≡ false → (room : ℕ) → Refuses (parsing text room)

abbrev pub ParsesRule : Type 0
ParsesRule = (text : List ℕ) (r : Rule) → Storable text → Reads text r → Parses text r

-- n numbers: a derivation that meets 32 to 35, whose table is admitted and fits the room
pub record TableOf (text : List ℕ) (room n : ℕ) : Type 0 where
  pub rule : Rule
  pub reads : Reads text rule
  pub met : meets rule ≡ true
  pub admitted : admission (numbers_of (rule_terms rule)) ≡ accepted
  pub count : n ≡ length (rule_terms rule) * words
  pub enough : n ≤ room

-- The theorem: a table is answered just where there is one.
pub record Just (text : List ℕ) (room n : ℕ) : Type 0 where
  pub sound : parsing text room ≡ Ok n → TableOf text room n
  pub complete : TableOf text room n → parsing text room ≡ Ok n

abbrev pub ParsedJust : Type 0
ParsedJust = (text : List ℕ) → Storable text → (room n : ℕ) → Just text room n
