-- An expression that is read without a fault moves the place forward in the text.
-- Assumes nothing.
use Rattle.parser.specs.declared.states.Fault.TheVariants as fault_kind
use mathlib.Core.Path.{◌≡◌, refl, sym, ap, ◌∙◌}
use mathlib.Core.Bool.{Bool, true, false, cond}
use mathlib.Core.List.{List, [], ◌∷◌}
use Prim.Native.Nat.{ℕ, zero, suc, ◌<◌, ◌≤◌}
use native.Mathlib.Nat.{pos_of_ne-zero}
use native.Mathlib.Omega.{arith}
use lib.Dec.{eqb, ltb}
use lib.ListN.{length, drop, get_or, length-drop}
use lib.Seq.{drop-cons, get_or-drop}
use borrow.Author.Tests.{eqb-false, eqb-true, ltb-true}
use Rattle.smtlib.specs.Bytes.{part}
use Rattle.parser.specs.declared.words.Word.{Word}
use Rattle.parser.specs.declared.words.Word.TheVariants.{Open, Close, Keyword, Operator, Literal, Width, Name, Other, End}
use Rattle.parser.specs.declared.words.Token.{Token}
use Rattle.parser.specs.declared.states.State.{State}
use Rattle.parser.specs.declared.states.Listed.{Listed}
use Rattle.parser.specs.declared.states.Head.{Head}
use Rattle.parser.specs.declared.states.Head.TheVariants.{Done, Constant, Call}
use Rattle.parser.specs.Words.{white, inside, ahead, past, word_from, token_at}
use Rattle.parser.specs.Names.{declared}
use Rattle.parser.proofs.Faults.{some_number}
use Rattle.parser.specs.Expressions.{too_few, too_deep, too_many, fault_in, Work, Listing, faulty_at, named, operator_in, head_in, head_of, begin_list, joined_to, closed_in, closed_state, closed_by, operands_by, operands_of, begun, expression_of}
use Rattle.parser.proofs.Choices.{by_test}

-- Words

-- from a place in the text to one after it
pub record Onward (text : List ℕ) (at to : ℕ) : Type 0 where
  pub further : at < to
  pub inside : at < length text

-- a search stops at a byte that fails, and goes on where one passes
stops_in : (test : ℕ → Bool) (l : List ℕ) → ahead test l < length l → test (get_or l (ahead test l) 0) ≡ false
unfolding ahead
stops_in test [] h = absurd (omega arith)
stops_in test (b ∷ bs) h = go (test b) refl (stops_in test bs) h
  where
    go : (t : Bool) → test b ≡ t → (ahead test bs < length bs → test (get_or bs (ahead test bs) 0) ≡ false)
        → cond t (suc (ahead test bs)) 0 < suc (length bs) → test (get_or (b ∷ bs) (cond t (suc (ahead test bs)) 0) 0) ≡ false
    go true e ih k = ih (omega (arith, k))
    go false e ih k = e

stops : (test : ℕ → Bool) (text : List ℕ) (at : ℕ) → past test text at < length text → test (get_or text (past test text at) 0) ≡ false
stops test text at h =
    rw (sym (get_or-drop at text (ahead test (drop at text)) 0)) (stops_in test (drop at text) (omega (arith, h, length-drop at text)))

goes : (test : ℕ → Bool) (text : List ℕ) (from : ℕ) → from < length text → test (get_or text from 0) ≡ true → from < past test text from
unfolding ahead
goes test text from h e =
    let d = ap (ahead test) (drop-cons text from 0 h) in
    let f = rw e at d in
    omega (arith, f)

word_on : (text : List ℕ) (from : ℕ) → from < length text → white (get_or text from 0) ≡ false → from < (word_from text from).next
unfolding word_from
word_on text from h w =
    let b = get_or text from 0 in
    by_test (λ (t : Token). from < t.next) (eqb b 40) (λ e. omega arith)
    (λ e. by_test (λ (t : Token). from < t.next) (eqb b 41) (λ f. omega arith) (λ f. goes inside text from h (rw (w, e, f))))

-- every word but the end moves the place
token_on : (text : List ℕ) (at : ℕ) → ((token_at text at).word ≡ End → ⊥) → Onward text at (token_at text at).next
unfolding token_at
token_on text at =
    let from = past white text at in
    by_test (λ (t : Token). (t.word ≡ End → ⊥) → Onward text at t.next) (ltb from (length text))
    (λ e n. let b = ltb-true from (length text) e in let f = word_on text from b (stops white text at b) in record { further = omega (arith, f); inside = omega (arith, b) })
    (λ e n. absurd (n refl))

is_end : Word → ℕ
is_end Open = 0
is_end Close = 0
is_end (Keyword k) = 0
is_end (Operator op) = 0
is_end (Literal n v) = 0
is_end (Width k) = 0
is_end (Name k) = 0
is_end Other = 0
is_end End = 1

word_moves : (text : List ℕ) (at : ℕ) (w : Word) → (token_at text at).word ≡ w → is_end w ≡ 0 → Onward text at (token_at text at).next
unfolding is_end
word_moves text at w e z = token_on text at (λ f. let k : is_end w ≡ 1 = ap is_end (sym e ∙ f) in omega (arith, k, z))

-- How an expression begins

-- without a fault further on, and a list only where a level is left
Moves : List ℕ → State → ℕ → Head → Type 0
Moves text s levels (Done v) = fault_in v ≡ 0 → Onward text s.at v.at
Moves text s levels (Constant n v next) = Onward text s.at next
Moves text s levels (Call op next) = (0 < levels) × Onward text s.at next

module _ (text : List ℕ) (names : ℕ) (s : State) (levels : ℕ) where
  module _ (t : Token) (o : Onward text s.at t.next) where
    operator_moves : 0 < levels → (w : Word) → (token_at text t.next).word ≡ w → Moves text s levels (operator_in s (token_at text t.next) w)
    unfolding Moves is_end
    operator_moves d Open e = λ f. absurd (omega (arith, f))
    operator_moves d Close e = λ f. absurd (omega (arith, f))
    operator_moves d (Keyword k) e = λ f. absurd (omega (arith, f))
    operator_moves d (Operator op) e =
        let m = word_moves text t.next (Operator op) e refl in
        (d, record { further = omega (arith, o.further, m.further); inside = o.inside })
    operator_moves d (Literal n v) e = λ f. absurd (omega (arith, f))
    operator_moves d (Width k) e = λ f. absurd (omega (arith, f))
    operator_moves d (Name k) e = λ f. absurd (omega (arith, f))
    operator_moves d Other e = λ f. absurd (omega (arith, f))
    operator_moves d End e = λ f. absurd (omega (arith, f))

    open_moves : Moves text s levels (cond (eqb levels 0) (Done (faulty_at s fault_kind.TooDeep t.from)) (operator_in s (token_at text t.next) (token_at text t.next).word))
    unfolding Moves
    open_moves =
        by_test (Moves text s levels) (eqb levels 0) (λ e f. absurd (omega (arith, f)))
        (λ e. operator_moves (pos_of_ne-zero (eqb-false levels 0 e)) (token_at text t.next).word refl)

    name_moves : (fault_in (named text names s t)) ≡ 0 → Onward text s.at (named text names s t).at
    name_moves = by_test (λ (v : State). fault_in v ≡ 0 → Onward text s.at v.at) (declared text names (part text t.from t.next)) (λ e f. o) (λ e f. absurd (omega (arith, f)))

  in_moves : (w : Word) → (token_at text s.at).word ≡ w
      → Moves text s levels (head_in text names s levels (token_at text s.at) (token_at text (token_at text s.at).next) w)
  unfolding Moves is_end
  in_moves Open e = open_moves (token_at text s.at) (word_moves text s.at Open e refl)
  in_moves Close e = λ f. absurd (some_number (too_few levels) f)
  in_moves (Keyword k) e = λ f. absurd (omega (arith, f))
  in_moves (Operator op) e = λ f. absurd (omega (arith, f))
  in_moves (Literal n v) e = word_moves text s.at (Literal n v) e refl
  in_moves (Width k) e = λ f. absurd (omega (arith, f))
  in_moves (Name k) e = name_moves (token_at text s.at) (word_moves text s.at (Name k) e refl)
  in_moves Other e = λ f. absurd (omega (arith, f))
  in_moves End e = λ f. absurd (omega (arith, f))

  head_moves : Moves text s levels (head_of text names s levels)
  unfolding head_of Moves
  head_moves = by_test (Moves text s levels) (eqb (fault_in s) 0) (λ e. in_moves (token_at text s.at).word refl) (λ e f. absurd (eqb-false (fault_in s) 0 e f))

-- a list begins only where there is a level left
pub deeper : (text : List ℕ) (names : ℕ) (s : State) (levels : ℕ) {op next : ℕ} → head_of text names s levels ≡ Call op next → 0 < levels
unfolding Moves
deeper text names s levels e = (rw e at (head_moves text names s levels)).0

-- Lists

pub joined_state : (l : Listed) (s : State) → (joined_to l s).state ≡ s
unfolding joined_to
joined_state l s = by_test (λ (k : Listed). k.state ≡ s) (eqb l.n 0) (λ e. refl) (λ e. by_test (λ (k : Listed). k.state ≡ s) (eqb l.n 1) (λ f. refl) (λ f. refl))

-- what ends a list without a fault is its closing parenthesis
closing_in : (text : List ℕ) (names : ℕ) (s : State) (levels : ℕ) (w : Word) → (token_at text s.at).word ≡ w
    → (fault_in (closed_in text names s levels (token_at text s.at) w)) ≡ 0 → s.at < (closed_in text names s levels (token_at text s.at) w).at
unfolding is_end
closing_in text names s levels Open e f = absurd (some_number (too_deep levels) f)
closing_in text names s levels Close e f = (word_moves text s.at Close e refl).further
closing_in text names s levels (Keyword k) e f = absurd (omega (arith, f))
closing_in text names s levels (Operator op) e f = absurd (omega (arith, f))
closing_in text names s levels (Literal n v) e f = absurd (omega (arith, f))
closing_in text names s levels (Width k) e f = absurd (omega (arith, f))
closing_in text names s levels (Name k) e f = absurd (some_number (too_many text names (token_at text s.at)) f)
closing_in text names s levels Other e f = absurd (omega (arith, f))
closing_in text names s levels End e f = absurd (omega (arith, f))

closed_moves : (text : List ℕ) (names levels : ℕ) (l : Listed) → (fault_in (closed_state text names levels l)) ≡ 0
    → (fault_in l.state ≡ 0) × (l.state.at < (closed_state text names levels l).at)
unfolding closed_state
closed_moves text names levels l =
    let s = l.state in
    by_test (λ (v : State). fault_in v ≡ 0 → (fault_in s ≡ 0) × (s.at < v.at)) (eqb (fault_in s) 0)
    (λ e f. (eqb-true (fault_in s) 0 e, closing_in text names s levels (token_at text s.at).word refl f))
    (λ e f. absurd (eqb-false (fault_in s) 0 e f))

-- a reader of one operand that moves the place, and a list's operands
abbrev pub Mover : List ℕ → (State → List ℕ → Work) → Type 0
Mover text one = (s : State) (room : List ℕ) → (fault_in (one s room).state) ≡ 0 → Onward text s.at (one s room).state.at

operands_move : (text : List ℕ) (one : State → List ℕ → Work) → Mover text one → (left : ℕ) (l : Listed) (room : List ℕ)
    → (fault_in (operands_by one left l room).listed.state) ≡ 0 → l.state.at ≤ (operands_by one left l room).listed.state.at
unfolding operands_by
operands_move text one m zero l room f = omega arith
operands_move text one m (suc left) l room f =
    let v = one l.state room in
    let ih = operands_move text one m left (joined_to l v.state) v.room in
    let j = joined_state l v.state in
    by_test (λ (k : Listing). fault_in k.listed.state ≡ 0 → l.state.at ≤ k.listed.state.at) (eqb (fault_in v.state) 0)
    (λ e g. omega (arith, (m l.state room (eqb-true (fault_in v.state) 0 e)).further, ap (λ (s : State). s.at) j, ih g))
    (λ e g. absurd (eqb-false (fault_in v.state) 0 e (sym (ap (λ (s : State). (fault_in s)) j) ∙ g)))
    f

-- Expressions

pub expression_moves : (levels : ℕ) (text : List ℕ) (names : ℕ) → Mover text (expression_of levels text names)
unfolding expression_of Moves
expression_moves zero text names s room = go (head_of text names s zero) (head_moves text names s zero)
  where
    go : (h : Head) → Moves text s zero h → (fault_in (begun (λ op next. record { state = s; room = room }) s room h).state) ≡ 0
        → Onward text s.at (begun (λ op next. record { state = s; room = room }) s room h).state.at
    go (Done v) m f = m f
    go (Constant n v next) m f = m
    go (Call op next) m f = absurd (omega (arith, m.0))
expression_moves (suc levels) text names s room = go (head_of text names s (suc levels)) (head_moves text names s (suc levels)) (expression_moves levels text names)
  where
    go : (h : Head) → Moves text s (suc levels) h → Mover text (expression_of levels text names)
        → (fault_in (begun (λ op next. closed_by text names levels op (operands_by (expression_of levels text names) (operands_of op) (begin_list s next) room)) s room h).state) ≡ 0
        → Onward text s.at (begun (λ op next. closed_by text names levels op (operands_by (expression_of levels text names) (operands_of op) (begin_list s next) room)) s room h).state.at
    go (Done v) m ih f = m f
    go (Constant n v next) m ih f = m
    go (Call op next) m ih f =
        let l = (operands_by (expression_of levels text names) (operands_of op) (begin_list s next) room).listed in
        let c = closed_moves text names levels l f in
        let o = operands_move text (expression_of levels text names) ih (operands_of op) (begin_list s next) room c.0 in
        record { further = omega (arith, m.1.further, o, c.1); inside = m.1.inside }
