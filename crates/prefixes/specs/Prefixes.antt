-- Which word refuses a text: Req 02, "Errors", as a definition on words alone. What stands open after some words is a spot; of a spot and
-- the next word five tests say whether it is refused by 31, 32, 33, 34, 35. At one word the lowest number counts.
-- Assumes nothing.
use Rattle.std.specs.Prelude.{Bool, true, false, cond, not, ◌&&◌, ◌||◌, List, [], ◌∷◌, ◌++◌, ℕ, suc, eqb, leb, length}
use Rattle.smtlib.specs.Bytes.{is_in}
use Rattle.parser.specs.declared.words.Word.{Word}
use Rattle.parser.specs.declared.words.Word.TheVariants.{Open, Close, Keyword, Operator, Literal, Width, Name, Other, End}
use Rattle.parser.specs.Expressions.{operands_of}
use Rattle.parser.specs.Rules.{code_of, width_in, is_name}
use Rattle.prefixes.specs.Spelling.{Spelt}

-- Words

-- the words that are asked for by themselves, as code_of numbers them
abbrev pub left_paren : ℕ
left_paren = 1

abbrev pub right_paren : ℕ
right_paren = 2

abbrev pub declare_const : ℕ
declare_const = 3

abbrev pub assert : ℕ
assert = 4

abbrev pub check_sat : ℕ
check_sat = 5

abbrev pub underscore : ℕ
underscore = 6

abbrev pub bool : ℕ
bool = 7

abbrev pub bit_vec : ℕ
bit_vec = 8

abbrev pub array : ℕ
array = 9

abbrev pub end_of_text : ℕ
end_of_text = 10

abbrev pub is : ℕ → Word → Bool
is code w = eqb (code_of w) code

-- a word that must follow: one of these, or a width
pub data Want : Type 0 where
  the : ℕ → Want
  width : Want

abbrev pub fits : Want → Word → Bool
fits (the code) w = is code w
fits width w = not (eqb (width_in w) 0)

-- what a word is in an expression
pub data Role : Type 0 where
  opens : Role
  closes : Role
  constant : Role
  named : Role
  operates : ℕ → Role
  other : Role

abbrev pub role_of : Word → Role
role_of Open = opens
role_of Close = closes
role_of (Keyword k) = other
role_of (Operator op) = operates op
role_of (Literal n v) = constant
role_of (Width w) = other
role_of (Name k) = named
role_of Other = other
role_of End = other

-- Spots

-- an open list: its operator, and how many operands it has so far
pub record Level : Type 0 where
  pub op : ℕ
  pub operands : ℕ

pub data Place : Type 0 where
  -- between commands: the next command's parenthesis
  commands : Place
  -- after it: declare-const, assert or check-sat
  command : Place
  -- in a declaration: the name; the sort; after the sort's parenthesis: _ or Array
  naming : Place
  sorting : Place
  sort_opened : Place
  -- these words, one after the other; then the next command
  wanting : Want → List Want → Place
  -- in an assert, within these lists, the innermost first: an operand or the list's end; outside of lists the assert's own expression
  operand : List Level → Place
  -- after a list's parenthesis: its operator
  operator : List Level → Place

-- what stands open, the names declared so far, and whether there was an assert
pub record Spot : Type 0 where
  pub place : Place
  pub names : List (List ℕ)
  pub asserted : Bool

abbrev pub start_spot : Spot
start_spot = record { place = commands; names = []; asserted = false }

abbrev pub on_to : List Want → Place
on_to [] = commands
on_to (x ∷ xs) = wanting x xs

-- ( _ BitVec width ), and then more
abbrev pub vector_then : List Want → List Want
vector_then more = the left_paren ∷ the underscore ∷ the bit_vec ∷ width ∷ the right_paren ∷ more

-- an operand ended: outside of lists the assert is closed
abbrev pub counted : List Level → Place
counted [] = wanting (the right_paren) []
counted (l ∷ ls) = operand (record { op = l.op; operands = suc l.operands } ∷ ls)

-- a list ended
abbrev pub closed : List Level → Place
closed [] = operand []
closed (l ∷ ls) = counted ls

abbrev pub after_operand : List Level → Role → Place
after_operand ls opens = operator ls
after_operand ls closes = closed ls
after_operand ls constant = counted ls
after_operand ls named = counted ls
after_operand ls (operates op) = operand ls
after_operand ls other = operand ls

abbrev pub after_operator : List Level → Role → Place
after_operator ls opens = operator ls
after_operator ls closes = operator ls
after_operator ls constant = operator ls
after_operator ls named = operator ls
after_operator ls (operates op) = operand (record { op = op; operands = 0 } ∷ ls)
after_operator ls other = operator ls

-- where the words go on after one that is expected
abbrev pub place_after : Place → Word → Place
place_after commands w = command
place_after command w = cond (is declare_const w) naming (cond (is assert w) (operand []) (wanting (the right_paren) (the end_of_text ∷ [])))
place_after naming w = sorting
place_after sorting w = cond (is left_paren w) sort_opened (wanting (the right_paren) [])
place_after sort_opened w =
    cond (is array w) (on_to (vector_then (vector_then (the right_paren ∷ the right_paren ∷ []))))
    (wanting (the bit_vec) (width ∷ the right_paren ∷ the right_paren ∷ []))
place_after (wanting x xs) w = on_to xs
place_after (operand ls) w = after_operand ls (role_of w)
place_after (operator ls) w = after_operator ls (role_of w)

-- at a declaration's name; after a command's parenthesis
abbrev pub is_naming : Place → Bool
is_naming commands = false
is_naming command = false
is_naming naming = true
is_naming sorting = false
is_naming sort_opened = false
is_naming (wanting x xs) = false
is_naming (operand ls) = false
is_naming (operator ls) = false

abbrev pub is_command : Place → Bool
is_command commands = false
is_command command = true
is_command naming = false
is_command sorting = false
is_command sort_opened = false
is_command (wanting x xs) = false
is_command (operand ls) = false
is_command (operator ls) = false

abbrev pub asserted_after : Place → Bool → Word → Bool
asserted_after p b w = is_command p && is assert w || b

abbrev pub after : Spot → Spelt → Spot
after s w =
    record {
      place = place_after s.place w.word;
      names = cond (is_naming s.place) (s.names ++ (w.bytes ∷ [])) s.names;
      asserted = asserted_after s.place s.asserted w.word;
    }

-- 31: by the grammar alone, with any count of operands, any depth, any names, no assert at all

abbrev pub is_operator : Role → Bool
is_operator opens = false
is_operator closes = false
is_operator constant = false
is_operator named = false
is_operator (operates op) = true
is_operator other = false

-- there is a list to be closed
abbrev pub in_list : List Level → Bool
in_list [] = false
in_list (l ∷ ls) = true

abbrev pub is_operand : List Level → Role → Bool
is_operand ls opens = true
is_operand ls closes = in_list ls
is_operand ls constant = true
is_operand ls named = true
is_operand ls (operates op) = false
is_operand ls other = false

-- declarations stand before asserts
abbrev pub expected_at : Place → Bool → Word → Bool
expected_at commands b w = is left_paren w
expected_at command b w = is declare_const w && not b || is assert w || is check_sat w
expected_at naming b w = is_name w
expected_at sorting b w = is left_paren w || is bool w
expected_at sort_opened b w = is array w || is underscore w
expected_at (wanting x xs) b w = fits x w
expected_at (operand ls) b w = is_operand ls (role_of w)
expected_at (operator ls) b w = is_operator (role_of w)

abbrev pub unexpected : Spot → Spelt → Bool
unexpected s w = not (expected_at s.place s.asserted w.word)

-- 32: a name declared again; an operand's name that no declaration before has

-- at an operand, a test of the lists that are open
abbrev pub at_operand : (List Level → Bool) → Place → Bool
at_operand test commands = false
at_operand test command = false
at_operand test naming = false
at_operand test sorting = false
at_operand test sort_opened = false
at_operand test (wanting x xs) = false
at_operand test (operand ls) = test ls
at_operand test (operator ls) = false

abbrev pub undeclared : Spot → Spelt → Bool
undeclared s w =
    is_naming s.place && (is_name w.word && is_in s.names w.bytes)
    || at_operand (λ ls. is_name w.word && not (is_in s.names w.bytes)) s.place

-- 33: the parenthesis with which more than 64 are open after the assert's own

abbrev pub deepest : ℕ
deepest = 64

abbrev pub deep_in : List Level → Role → Bool
deep_in ls opens = leb deepest (length ls)
deep_in ls closes = false
deep_in ls constant = false
deep_in ls named = false
deep_in ls (operates op) = false
deep_in ls other = false

abbrev pub too_deep : Spot → Spelt → Bool
too_deep s w = at_operand (λ ls. deep_in ls (role_of w.word)) s.place

-- 34: the end of a list with too few operands, or the first word of an operand too many

abbrev pub too_few : List Level → Bool
too_few [] = false
too_few (l ∷ ls) = not (eqb l.operands (operands_of l.op))

abbrev pub full : List Level → Bool
full [] = false
full (l ∷ ls) = leb (operands_of l.op) l.operands

abbrev pub miscounted_in : List Level → Role → Bool
miscounted_in ls opens = full ls
miscounted_in ls closes = too_few ls
miscounted_in ls constant = full ls
miscounted_in ls named = full ls
miscounted_in ls (operates op) = false
miscounted_in ls other = false

abbrev pub miscounted : Spot → Spelt → Bool
miscounted s w = at_operand (λ ls. miscounted_in ls (role_of w.word)) s.place

-- 35: check-sat without an assert before

abbrev pub unasserted : Spot → Spelt → Bool
unasserted s w = is_command s.place && (is check_sat w.word && not s.asserted)

-- The lowest number whose test holds, 0 for none

abbrev pub refusal : Spot → Spelt → ℕ
refusal s w =
    cond (unexpected s w) 31
    (cond (undeclared s w) 32
    (cond (too_deep s w) 33
    (cond (miscounted s w) 34
    (cond (unasserted s w) 35
    0))))

-- what refuses the last of some words, 0 for nothing
unfoldable pub refuses_from : Spot → List Spelt → ℕ
refuses_from s [] = 0
refuses_from s (w ∷ []) = refusal s w
refuses_from s (w ∷ v ∷ ws) = refuses_from (after s w) (v ∷ ws)

abbrev pub refuses : List Spelt → ℕ
refuses ws = refuses_from start_spot ws

-- the first word that is refused: by what, and where; 0 for none
pub record Refused : Type 0 where
  pub number : ℕ
  pub place : ℕ

abbrev pub nothing : Refused
nothing = record { number = 0; place = 0 }

unfoldable pub first_from : Spot → List Spelt → Refused
first_from s [] = nothing
first_from s (w ∷ ws) =
    let rest = first_from (after s w) ws in
    cond (eqb (refusal s w) 0) rest (record { number = refusal s w; place = w.from })

abbrev pub first_refusal : List Spelt → Refused
first_refusal ws = first_from start_spot ws
