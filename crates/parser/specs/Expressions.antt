-- How an expression is read, word by word from the left, into a table of terms: Req 02. After a fault nothing more is read.
-- Assumes nothing.
use Rattle.std.specs.Prelude.{Option, Some, None, cond, List, ℕ, zero, suc, ◌+◌, eqb, ltb}
use Rattle.ops.specs.Numbers.{op_of}
use Rattle.smtlib.specs.Bytes.{part}
use Rattle.table.specs.declared.ranks.Rank.{Rank}
use Rattle.table.specs.declared.ranks.Rank.TheVariants.{Literal, Input, BoolUnary, BoolBinary, Equality, Choice, BvUnary, BvBinary, BvCompare, Read, Write, Other}
use Rattle.table.specs.declared.words.Sort.{Sort}
use Rattle.table.specs.declared.words.Term.{Term}
use Rattle.table.specs.Terms.{sort_at}
use Rattle.table.specs.Ranks.{rank_of, fields_of, operand_count}
use Rattle.table.specs.Code.Writing.{placed}
use Rattle.parser.specs.declared.words.Word.{Word}
use Rattle.parser.specs.declared.words.Word.TheVariants as word
use Rattle.parser.specs.declared.words.Token.{Token}
use Rattle.parser.specs.declared.states.Fault.{Fault}
use Rattle.parser.specs.declared.states.Fault.TheVariants as fault_kind
use Rattle.parser.specs.declared.states.State.{State}
use Rattle.parser.specs.declared.states.Listed.{Listed}
use Rattle.parser.specs.declared.states.Head.{Head}
use Rattle.parser.specs.declared.states.Head.TheVariants.{Done, Constant, Call}
use Rattle.parser.specs.Words.{token_at}
use Rattle.parser.specs.Names.{index_of, declared}

-- the state and the table, while an expression is read and while a list is
pub record Work : Type 0 where
  pub state : State
  pub room : List ℕ

pub record Listing : Type 0 where
  pub listed : Listed
  pub room : List ℕ

-- what refuses a word, by its number
abbrev pub fault_number : Fault → ℕ
fault_number fault_kind.Unexpected = 31
fault_number fault_kind.Undeclared = 32
fault_number fault_kind.TooDeep = 33
fault_number fault_kind.Miscounted = 34
fault_number fault_kind.Unasserted = 35

-- 0 for nothing
abbrev pub numbered : Option Fault → ℕ
numbered None = 0
numbered (Some fault) = fault_number fault

abbrev pub fault_in : State → ℕ
fault_in s = numbered s.fault

abbrev pub faulty_at : State → Fault → ℕ → State
faulty_at s fault place = record { at = place; count = s.count; root = s.root; fault = Some fault }

-- one term more: 513 stays
abbrev pub more_of : ℕ → ℕ
more_of count = cond (ltb count 513) (count + 1) count

-- a term of its own was added
abbrev pub added : State → ℕ → State
added s at = record { at = at; count = more_of s.count; root = s.count; fault = None }

-- no term has a number over 513
abbrev pub number : ℕ → ℕ
number i = cond (ltb i 513) i 513

-- a name is the term of its declaration; 32 where it has none
abbrev pub named : List ℕ → ℕ → State → Token → State
named text names s t =
    let i = index_of text names (part text t.from t.next) in
    cond (ltb i names) (record { at = t.next; count = s.count; root = number i; fault = None }) (faulty_at s fault_kind.Undeclared t.from)

-- after a parenthesis only an operator is expected
abbrev pub operator_in : State → Token → Word → Head
operator_in s t word.Open = Done (faulty_at s fault_kind.Unexpected t.from)
operator_in s t word.Close = Done (faulty_at s fault_kind.Unexpected t.from)
operator_in s t (word.Keyword k) = Done (faulty_at s fault_kind.Unexpected t.from)
operator_in s t (word.Operator op) = Call op t.next
operator_in s t (word.Literal n v) = Done (faulty_at s fault_kind.Unexpected t.from)
operator_in s t (word.Width w) = Done (faulty_at s fault_kind.Unexpected t.from)
operator_in s t (word.Name k) = Done (faulty_at s fault_kind.Unexpected t.from)
operator_in s t word.Other = Done (faulty_at s fault_kind.Unexpected t.from)
operator_in s t word.End = Done (faulty_at s fault_kind.Unexpected t.from)

-- a closing parenthesis in an operand's place: inside a list there are too few operands
abbrev pub too_few : ℕ → Fault
too_few levels = cond (ltb levels 64) fault_kind.Miscounted fault_kind.Unexpected

-- how an expression begins, by its first word and, after a parenthesis, its second; levels parentheses more may be open
abbrev pub head_in : List ℕ → ℕ → State → ℕ → Token → Token → Word → Head
head_in text names s levels t second word.Open = cond (eqb levels 0) (Done (faulty_at s fault_kind.TooDeep t.from)) (operator_in s second second.word)
head_in text names s levels t second word.Close = Done (faulty_at s (too_few levels) t.from)
head_in text names s levels t second (word.Keyword k) = Done (faulty_at s fault_kind.Unexpected t.from)
head_in text names s levels t second (word.Operator op) = Done (faulty_at s fault_kind.Unexpected t.from)
head_in text names s levels t second (word.Literal n v) = Constant n v t.next
head_in text names s levels t second (word.Width w) = Done (faulty_at s fault_kind.Unexpected t.from)
head_in text names s levels t second (word.Name k) = Done (named text names s t)
head_in text names s levels t second word.Other = Done (faulty_at s fault_kind.Unexpected t.from)
head_in text names s levels t second word.End = Done (faulty_at s fault_kind.Unexpected t.from)

unfoldable pub head_of : List ℕ → ℕ → State → ℕ → Head
head_of text names s levels =
    let t = token_at text s.at in
    cond (eqb (fault_in s) 0) (head_in text names s levels t (token_at text t.next) t.word) (Done s)

-- operands: none yet; one more
abbrev pub begin_list : State → ℕ → Listed
begin_list s at = record { state = record { at = at; count = s.count; root = s.root; fault = s.fault }; n = 0; p = 0; q = 0; r = 0 }

unfoldable pub joined_to : Listed → State → Listed
joined_to l s =
    cond (eqb l.n 0) (record { state = s; n = 1; p = s.root; q = 0; r = 0 })
    (cond (eqb l.n 1) (record { state = s; n = 2; p = l.p; q = s.root; r = 0 })
    (record { state = s; n = 3; p = l.p; q = l.q; r = s.root }))

-- the sort of a list: Boolean, the second operand's, (0, n) of an array, or the first operand's
abbrev pub sort_by : Rank → Sort → Sort → Sort
sort_by Literal a b = record { m = 0; n = 0 }
sort_by Input a b = record { m = 0; n = 0 }
sort_by BoolUnary a b = record { m = 0; n = 0 }
sort_by BoolBinary a b = record { m = 0; n = 0 }
sort_by Equality a b = record { m = 0; n = 0 }
sort_by Choice a b = b
sort_by BvUnary a b = a
sort_by BvBinary a b = a
sort_by BvCompare a b = record { m = 0; n = 0 }
sort_by Read a b = record { m = 0; n = a.n }
sort_by Write a b = a
sort_by Other a b = a

unfoldable pub term_of : List ℕ → ℕ → Listed → Term
term_of room op l =
    record {
      op = op;
      sort = sort_by (rank_of (op_of op)) (sort_at room l.p) (sort_at room l.q);
      p = l.p;
      q = l.q;
      r = l.r;
    }

abbrev pub constant_term : ℕ → ℕ → Term
constant_term n v = record { op = 0; sort = record { m = 0; n = n }; p = v; q = 0; r = 0 }

-- the fault of a parenthesis, and of a name, that begins an operand too many
abbrev pub too_deep : ℕ → Fault
too_deep levels = cond (eqb levels 0) fault_kind.TooDeep fault_kind.Miscounted

abbrev pub too_many : List ℕ → ℕ → Token → Fault
too_many text names t = cond (declared text names (part text t.from t.next)) fault_kind.Miscounted fault_kind.Undeclared

-- what follows a list's operands: its end; else an operand too many, by its first word
abbrev pub closed_in : List ℕ → ℕ → State → ℕ → Token → Word → State
closed_in text names s levels t word.Open = faulty_at s (too_deep levels) t.from
closed_in text names s levels t word.Close = added s t.next
closed_in text names s levels t (word.Keyword k) = faulty_at s fault_kind.Unexpected t.from
closed_in text names s levels t (word.Operator op) = faulty_at s fault_kind.Unexpected t.from
closed_in text names s levels t (word.Literal n v) = faulty_at s fault_kind.Miscounted t.from
closed_in text names s levels t (word.Width w) = faulty_at s fault_kind.Unexpected t.from
closed_in text names s levels t (word.Name k) = faulty_at s (too_many text names t) t.from
closed_in text names s levels t word.Other = faulty_at s fault_kind.Unexpected t.from
closed_in text names s levels t word.End = faulty_at s fault_kind.Unexpected t.from

unfoldable pub closed_state : List ℕ → ℕ → ℕ → Listed → State
closed_state text names levels l =
    let t = token_at text l.state.at in
    cond (eqb (fault_in l.state) 0) (closed_in text names l.state levels t t.word) l.state

-- the term of a list is written after those of its operands, whatever follows
abbrev pub closed_by : List ℕ → ℕ → ℕ → ℕ → Listing → Work
closed_by text names levels op v =
    record {
      state = closed_state text names levels v.listed;
      room = placed v.room v.listed.state.count (term_of v.room op v.listed);
    }

-- left operands, read by one; a fault ends the list
unfoldable pub operands_by : (State → List ℕ → Work) → ℕ → Listed → List ℕ → Listing
operands_by one zero l room = record { listed = l; room = room }
operands_by one (suc left) l room =
    let v = one l.state room in
    let rest = operands_by one left (joined_to l v.state) v.room in
    cond (eqb (fault_in v.state) 0) rest (record { listed = joined_to l v.state; room = v.room })

-- how many operands an operator has
abbrev pub operands_of : ℕ → ℕ
operands_of op = operand_count (fields_of (rank_of (op_of op)))

-- an expression that is done, a constant, or the list of an operator, read by list
abbrev pub begun : (ℕ → ℕ → Work) → State → List ℕ → Head → Work
begun list s room (Done v) = record { state = v; room = room }
begun list s room (Constant n v next) = record { state = added s next; room = placed room s.count (constant_term n v) }
begun list s room (Call op next) = list op next

-- an expression with so many levels of parentheses left
unfoldable pub expression_of : ℕ → List ℕ → ℕ → State → List ℕ → Work
expression_of zero text names s room = begun (λ op next. record { state = s; room = room }) s room (head_of text names s zero)
expression_of (suc levels) text names s room =
    begun (λ op next. closed_by text names levels op (operands_by (expression_of levels text names) (operands_of op) (begin_list s next) room)) s room
    (head_of text names s (suc levels))
