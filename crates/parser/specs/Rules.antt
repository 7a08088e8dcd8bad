-- How a rule is read: declarations, asserts and check-sat, word by word from the left: Req 02. After a fault nothing more is read.
-- Assumes nothing.
use Rattle.parser.specs.declared.states.Fault.TheVariants as fault_kind
use Rattle.std.specs.Prelude.{None}
use Rattle.std.specs.Prelude.{Bool, true, false, cond, not, ◌&&◌, ◌||◌, List, ℕ, zero, suc, ◌+◌, eqb, ltb, length, replicate}
use Rattle.ops.specs.Meaning.{bit}
use Rattle.smtlib.specs.Bytes.{part}
use Rattle.table.specs.declared.words.Term.{Term}
use Rattle.table.specs.Code.Writing.{placed}
use Rattle.parser.specs.declared.words.Word.{Word}
use Rattle.parser.specs.declared.words.Word.TheVariants.{Open, Close, Keyword, Operator, Literal, Width, Name, Other, End}
use Rattle.parser.specs.declared.words.Token.{Token}
use Rattle.parser.specs.declared.states.State.{State}
use Rattle.parser.specs.declared.states.Sorted.{Sorted}
use Rattle.parser.specs.declared.states.Progress.{Progress}
use Rattle.parser.specs.Words.{keyword_number, name_number, marked, token_at}
use Rattle.parser.specs.Names.{declared}
use Rattle.parser.specs.Expressions.{fault_in, Work, faulty_at, added, number, expression_of}

-- Words that are asked for by themselves

-- ( 1, ) 2; declare-const, assert, check-sat, _ 3 to 6; Bool, BitVec, Array 7 to 9; the end 10; any other word 0
abbrev pub code_of : Word → ℕ
code_of Open = 1
code_of Close = 2
code_of (Keyword k) = 3 + keyword_number k
code_of (Operator op) = 0
code_of (Literal n v) = 0
code_of (Width w) = 0
code_of (Name k) = cond (eqb (name_number k) 0) 0 (6 + name_number k)
code_of Other = 0
code_of End = 10

abbrev pub moved_to : State → ℕ → State
moved_to s at = record { at = at; count = s.count; root = s.root; fault = s.fault }

-- past the word of a code; 31 where another word stands
unfoldable pub expected : List ℕ → State → ℕ → State
expected text s code =
    let t = token_at text s.at in
    cond (eqb (fault_in s) 0) (cond (eqb (code_of t.word) code) (moved_to s t.next) (faulty_at s fault_kind.Unexpected t.from)) s

-- Sorts

-- the width that a word is, 0 for none
abbrev pub width_in : Word → ℕ
width_in Open = 0
width_in Close = 0
width_in (Keyword k) = 0
width_in (Operator op) = 0
width_in (Literal n v) = 0
width_in (Width w) = w
width_in (Name k) = 0
width_in Other = 0
width_in End = 0

abbrev pub sorted_as : State → ℕ → ℕ → Sorted
sorted_as s m n = record { state = s; sort = record { m = m; n = n } }

-- a width, 1 to 32
unfoldable pub width_of : List ℕ → State → Sorted
width_of text s =
    let t = token_at text s.at in
    cond (eqb (fault_in s) 0)
    (cond (eqb (width_in t.word) 0) (sorted_as (faulty_at s fault_kind.Unexpected t.from) 0 0) (sorted_as (moved_to s t.next) 0 (width_in t.word)))
    (sorted_as s 0 0)

-- ( _ BitVec width )
unfoldable pub vector_of : List ℕ → State → Sorted
vector_of text s =
    let w = width_of text (expected text (expected text (expected text s 1) 6) 8) in
    sorted_as (expected text w.state 2) 0 w.sort.n

-- ( Array vector vector )
unfoldable pub array_of : List ℕ → State → Sorted
array_of text s =
    let m = vector_of text (expected text (expected text s 1) 9) in
    let n = vector_of text m.state in
    sorted_as (expected text n.state 2) m.sort.n n.sort.n

-- Bool, a vector or an array: by the first word, and after a parenthesis by the second
unfoldable pub sort_of : List ℕ → State → Sorted
sort_of text s =
    let t = token_at text s.at in
    let second = token_at text t.next in
    cond (eqb (code_of t.word) 1) (cond (eqb (code_of second.word) 9) (array_of text s) (vector_of text s)) (sorted_as (expected text s 7) 0 0)

-- Declarations

-- a word is a name
abbrev pub is_name : Word → Bool
is_name Open = false
is_name Close = false
is_name (Keyword k) = false
is_name (Operator op) = false
is_name (Literal n v) = false
is_name (Width w) = false
is_name (Name k) = true
is_name Other = false
is_name End = false

-- a new name: 31 where the word is none, 32 where it was declared before
unfoldable pub new_name : List ℕ → ℕ → State → State
new_name text names s =
    let t = token_at text s.at in
    cond (eqb (fault_in s) 0)
    (cond (is_name t.word)
    (cond (declared text names (part text t.from t.next)) (faulty_at s fault_kind.Undeclared t.from) (moved_to s t.next))
    (faulty_at s fault_kind.Unexpected t.from))
    s

-- the variable of a declaration: its sort, its slot, its mark
abbrev pub variable_term : ℕ → ℕ → ℕ → Bool → Term
variable_term m n slot mark = record { op = 1; sort = record { m = m; n = n }; p = slot; q = bit mark; r = 0 }

-- one name more: so many there are not
abbrev pub one_more : ℕ → ℕ
one_more names = cond (ltb names 4611686018427387904) (names + 1) names

pub record Step : Type 0 where
  pub progress : Progress
  pub room : List ℕ

abbrev pub with_state : Progress → State → Progress
with_state p s = record { state = s; names = p.names; asserts = p.asserts; rule = p.rule; bare = p.bare; ended = p.ended }

-- a declaration from its name on: the name, the sort, the closing parenthesis; then its term
unfoldable pub declaration_of : List ℕ → Progress → State → List ℕ → Step
declaration_of text p s room =
    let t = token_at text s.at in
    let v = sort_of text (new_name text p.names s) in
    let e = expected text v.state 2 in
    cond (eqb (fault_in e) 0)
    (record {
      progress = record { state = added e e.at; names = one_more p.names; asserts = p.asserts; rule = p.rule; bare = p.bare; ended = p.ended };
      room = placed room e.count (variable_term v.sort.m v.sort.n (number p.names) (marked (part text t.from t.next)));
    })
    (record { progress = with_state p e; room = room })

-- Asserts

abbrev pub and_term : ℕ → ℕ → Term
and_term p q = record { op = 3; sort = record { m = 0; n = 0 }; p = p; q = q; r = 0 }

-- the first assert is the rule so far; each other is joined to it
unfoldable pub joined_rule : Progress → Bool → Work → Step
joined_rule p bare v =
    let s = v.state in
    cond (eqb (fault_in s) 0)
    (cond (eqb p.asserts 0)
    (record { progress = record { state = s; names = p.names; asserts = 1; rule = s.root; bare = bare; ended = false }; room = v.room })
    (record {
      progress = record { state = added s s.at; names = p.names; asserts = 2; rule = s.count; bare = false; ended = false };
      room = placed v.room s.count (and_term p.rule s.root);
    }))
    (record { progress = with_state p s; room = v.room })

-- an assert from its expression on: the expression, the closing parenthesis
unfoldable pub assert_of : List ℕ → Progress → State → List ℕ → Step
assert_of text p s room =
    let v = expression_of 64 text p.names s room in
    joined_rule p (is_name (token_at text s.at).word) (record { state = expected text v.state 2; room = v.room })

-- The end

-- a sole assert of a bare name is joined with itself
unfoldable pub ended_rule : Progress → State → List ℕ → Step
ended_rule p s room =
    cond (eqb (fault_in s) 0)
    (cond (eqb p.asserts 1 && p.bare)
    (record {
      progress = record { state = added s s.at; names = p.names; asserts = p.asserts; rule = s.count; bare = p.bare; ended = true };
      room = placed room s.count (and_term p.rule p.rule);
    })
    (record { progress = record { state = s; names = p.names; asserts = p.asserts; rule = p.rule; bare = p.bare; ended = true }; room = room }))
    (record { progress = with_state p s; room = room })

-- check-sat, the word t: 35 where there was no assert; then the closing parenthesis and the end
unfoldable pub check_of : List ℕ → Progress → Token → List ℕ → Step
check_of text p t room =
    let s = cond (eqb p.asserts 0) (faulty_at p.state fault_kind.Unasserted t.from) (moved_to p.state t.next) in
    ended_rule p (expected text (expected text s 2) 10) room

-- Commands

-- by the word after the parenthesis: declarations only before the first assert
unfoldable pub command_by : List ℕ → Progress → Token → List ℕ → Step
command_by text p t room =
    let code = code_of t.word in
    cond (eqb code 3 && eqb p.asserts 0) (declaration_of text p (moved_to p.state t.next) room)
    (cond (eqb code 4) (assert_of text p (moved_to p.state t.next) room)
    (cond (eqb code 5) (check_of text p t room)
    (record { progress = with_state p (faulty_at p.state fault_kind.Unexpected t.from); room = room })))

unfoldable pub command_of : List ℕ → Progress → List ℕ → Step
command_of text p room =
    let t = token_at text p.state.at in
    cond (eqb (code_of t.word) 1) (command_by text p (token_at text t.next) room)
    (record { progress = with_state p (faulty_at p.state fault_kind.Unexpected t.from); room = room })

abbrev pub halted : Progress → Bool
halted p = p.ended || not (eqb (fault_in p.state) 0)

-- one command after the other: there are no more than there are bytes
unfoldable pub commands_of : ℕ → List ℕ → Step → Step
commands_of zero text v = v
commands_of (suc left) text v =
    let next = commands_of left text (command_of text v.progress v.room) in
    cond (halted v.progress) v next

abbrev pub start : Progress
start = record { state = record { at = 0; count = 0; root = 0; fault = None }; names = 0; asserts = 0; rule = 0; bare = false; ended = false }

-- a whole text, read into a table of 512 terms
unfoldable pub rule_of : List ℕ → Step
rule_of text = commands_of (length text + 1) text (record { progress = start; room = replicate 3072 0 })
