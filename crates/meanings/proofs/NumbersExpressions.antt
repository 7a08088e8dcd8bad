-- An expression is refused by 31 to 35 alone; and one that is read leaves a table whose terms pass 3, 4 and 5.
-- Assumes nothing.
use Rattle.parser.specs.declared.states.Fault.{Fault}
use Rattle.parser.specs.declared.states.Fault.TheVariants as fault_kind
use mathlib.Core.Path.{◌≡◌, refl, sym, ap, ◌∙◌, subst}
use mathlib.Core.Bool.{true, cond}
use mathlib.Core.List.{List}
use Prim.Native.Nat.{ℕ, zero, suc, ◌+◌, ◌≤◌, ◌<◌}
use native.Mathlib.Omega.{arith}
use lib.Dec.{eqb, ltb}
use borrow.Author.Tests.{eq-eqb, ne_eqb, eqb-true, eqb-false, ltb-true, lt-ltb}
use Rattle.ops.specs.Numbers.{op_of, last_op}
use Rattle.ops.proofs.Booleans.{never}
use Rattle.smtlib.specs.Bytes.{part}
use Rattle.table.specs.Refusals.{between}
use Rattle.table.specs.declared.ranks.Fields.{Fields}
use Rattle.table.specs.declared.ranks.Fields.TheVariants.{Value, Slot, One, Two, Three}
use Rattle.table.specs.Ranks.{rank_of, fields_of, operand_count}
use Rattle.table.specs.Code.Writing.{placed}
use Rattle.parser.specs.declared.words.Word.{Word}
use Rattle.parser.specs.declared.words.Word.TheVariants.{Open, Close, Keyword, Operator, Literal, Width, Name, Other, End}
use Rattle.parser.specs.declared.words.Token.{Token}
use Rattle.parser.specs.declared.states.State.{State}
use Rattle.parser.specs.declared.states.Listed.{Listed}
use Rattle.parser.specs.declared.states.Head.{Head}
use Rattle.parser.specs.declared.states.Head.TheVariants.{Done, Constant, Call}
use Rattle.parser.specs.Words.{token_at}
use Rattle.parser.specs.Names.{index_of}
use Rattle.parser.specs.Expressions.{fault_in, Work, Listing, added, named, operator_in, head_in, head_of, begin_list, joined_to, term_of, closed_in, closed_state, fault_number, too_few, too_deep, too_many}
use Rattle.parser.specs.Expressions.{closed_by, operands_by, operands_of, begun, expression_of}
use Rattle.parser.proofs.Choices.{by_test}
use Rattle.parser.proofs.Accepts.{joined_state}
use Rattle.meanings.proofs.NumbersWords.{Bounded, bounded}
use Rattle.meanings.proofs.NumbersTables.{Table, more_is, more_grows, one_more_lem}
use Rattle.meanings.proofs.NumbersTerms.{constant_clean, list_clean, Held}

-- 31 to 35
abbrev pub Faulty : State → Type 0
Faulty s = between 31 35 (fault_in s) ≡ true

in_range : (f : Fault) → between 31 35 (fault_number f) ≡ true
in_range fault_kind.Unexpected = refl
in_range fault_kind.Undeclared = refl
in_range fault_kind.TooDeep = refl
in_range fault_kind.Miscounted = refl
in_range fault_kind.Unasserted = refl

pub not_clean : (s : State) → Faulty s → fault_in s ≡ 0 → ⊥
not_clean s h e = never (ap (between 31 35) (sym e) ∙ h)

-- what is read: a fault, or a table with the expression's own term in it, of at least c terms
pub data Outcome (names c : ℕ) (w : Work) : Type 0 where
  stopped : Faulty w.state → Outcome names c w
  fine : fault_in w.state ≡ 0 → Table names w.state.count w.room → (w.state.count ≤ 512 → w.state.root < w.state.count)
      → c ≤ w.state.count → Outcome names c w

-- How an expression begins

data Begins (names levels : ℕ) (s : State) : Head → Type 0 where
  stop : {v : State} → Faulty v → Begins names levels s (Done v)
  name : {v : State} → fault_in v ≡ 0 → v.count ≡ s.count → (s.count ≤ 512 → names ≤ s.count → v.root < s.count) → Begins names levels s (Done v)
  constant : {n v next : ℕ} → n ≤ 32 → Begins names levels s (Constant n v next)
  call : {op next : ℕ} → (levels ≡ 0 → ⊥) → 2 ≤ op → op ≤ last_op → Begins names levels s (Call op next)

module _ (text : List ℕ) (names : ℕ) (s : State) (levels : ℕ) where
  named_begins : (t : Token) → Begins names levels s (Done (named text names s t))
  named_begins t =
      let i = index_of text names (part text t.from t.next) in
      by_test (λ (v : State). Begins names levels s (Done v)) (ltb i names)
      (λ e. name refl refl (λ few enough. let b : i < names = ltb-true i names e in rw (lt-ltb i 513 (omega arith)) (omega arith))) (λ e. stop refl)

  operator_begins : (levels ≡ 0 → ⊥) → (t : Token) (w : Word) → Bounded w → Begins names levels s (operator_in s t w)
  operator_begins h t Open b = stop refl
  operator_begins h t Close b = stop refl
  operator_begins h t (Keyword k) b = stop refl
  operator_begins h t (Operator op) b = call h b.0 b.1
  operator_begins h t (Literal n v) b = stop refl
  operator_begins h t (Width n) b = stop refl
  operator_begins h t (Name k) b = stop refl
  operator_begins h t Other b = stop refl
  operator_begins h t End b = stop refl

  head_begins : (t second : Token) → Bounded second.word → (w : Word) → Bounded w → Begins names levels s (head_in text names s levels t second w)
  head_begins t second c Open b = by_test (Begins names levels s) (eqb levels 0) (λ e. stop refl)
      (λ e. operator_begins (eqb-false levels 0 e) second second.word c)
  head_begins t second c Close b = stop (in_range (too_few levels))
  head_begins t second c (Keyword k) b = stop refl
  head_begins t second c (Operator op) b = stop refl
  head_begins t second c (Literal n v) b = constant b
  head_begins t second c (Width n) b = stop refl
  head_begins t second c (Name k) b = named_begins t
  head_begins t second c Other b = stop refl
  head_begins t second c End b = stop refl

  begins : fault_in s ≡ 0 → Begins names levels s (head_of text names s levels)
  unfolding head_of
  begins clean =
      let t = token_at text s.at in
      rw (eq-eqb (fault_in s) 0 clean) (head_begins t (token_at text t.next) (bounded text t.next) t.word (bounded text s.at))

-- Operands

joined_n : (l : Listed) (s : State) → l.n < 3 → (joined_to l s).n ≡ l.n + 1
unfolding joined_to
joined_n l s few =
    let P : Listed → Type 0 = λ x. x.n ≡ l.n + 1 in
    by_test P (eqb l.n 0) (λ e. omega (arith, eqb-true l.n 0 e))
    (λ e. by_test P (eqb l.n 1) (λ f. omega (arith, eqb-true l.n 1 f)) (λ f. omega (arith, eqb-false l.n 0 e, eqb-false l.n 1 f)))

held_more : (c c' : ℕ) (l : Listed) (s : State) → Held c l → c ≤ c' → s.root < c' → l.n < 3 → Held c' (joined_to l s)
unfolding joined_to
held_more c c' l s h up below few =
    by_test (Held c') (eqb l.n 0)
    (λ e. record {
      first = λ i. below;
      second = λ i. absurd (omega arith);
      third = λ i. absurd (omega arith);
      no_second = λ i. refl;
      no_third = λ i. refl;
    })
    (λ e. let some = eqb-false l.n 0 e in by_test (Held c') (eqb l.n 1)
    (λ f. let one : l.n ≡ 1 = eqb-true l.n 1 f in
    record {
      first = λ i. omega (arith, h.first (omega arith));
      second = λ i. below;
      third = λ i. absurd (omega arith);
      no_second = λ i. absurd (omega arith);
      no_third = λ i. refl;
    })
    (λ f. let two : l.n ≡ 2 = omega (arith, some, eqb-false l.n 1 f) in
    record {
      first = λ i. omega (arith, h.first (omega arith));
      second = λ i. omega (arith, h.second (omega arith));
      third = λ i. below;
      no_second = λ i. absurd (omega arith);
      no_third = λ i. absurd (omega arith);
    }))

-- what a list leaves: a fault, or n operands
data Listings (names c n : ℕ) (u : Listing) : Type 0 where
  stopped : Faulty u.listed.state → Listings names c n u
  fine : fault_in u.listed.state ≡ 0 → Table names u.listed.state.count u.room
      → (u.listed.state.count ≤ 512 → Held u.listed.state.count u.listed)
      → u.listed.n ≡ n → c ≤ u.listed.state.count → Listings names c n u

few-operands : (f : Fields) → operand_count f ≤ 3
few-operands Value = omega arith
few-operands Slot = omega arith
few-operands One = omega arith
few-operands Two = omega arith
few-operands Three = omega arith

module _ (names : ℕ) (one : State → List ℕ → Work) (read : (s : State) (room : List ℕ) → fault_in s ≡ 0 → Table names s.count room
    → Outcome names s.count (one s room)) (c n : ℕ) (few : n ≤ 3) where
  -- left operands after those of l
  abbrev Reads : ℕ → Listed → List ℕ → Type 0
  Reads left l room =
      fault_in l.state ≡ 0 → Table names l.state.count room → (l.state.count ≤ 512 → Held l.state.count l) → c ≤ l.state.count
      → l.n + left ≡ n
      → Listings names c n (operands_by one left l room)

  one_read : (left : ℕ) (l : Listed) → (l.state.count ≤ 512 → Held l.state.count l) → c ≤ l.state.count → l.n + suc left ≡ n
      → ((l' : Listed) (room' : List ℕ) → Reads left l' room')
      → (v : Work) → Outcome names l.state.count v
      → Listings names c n (cond (eqb (fault_in v.state) 0) (operands_by one left (joined_to l v.state) v.room)
      (record { listed = joined_to l v.state; room = v.room }))
  one_read left l h low e rest v (stopped b) = rw (ne_eqb (fault_in v.state) 0 (not_clean v.state b))
      (stopped (subst Faulty (sym (joined_state l v.state)) b))
  one_read left l h low e rest v (fine f t r up) =
      let l' = joined_to l v.state in
      let same : l'.state ≡ v.state = joined_state l v.state in
      let held : v.state.count ≤ 512 → Held v.state.count l' =
      λ i. held_more l.state.count v.state.count l v.state (h (omega arith)) up (r i) (omega arith) in
      rw (eq-eqb (fault_in v.state) 0 f)
      (rest l' v.room (ap (λ (s : State). (fault_in s)) same ∙ f) (subst (λ (s : State). Table names s.count v.room) (sym same) t)
      (subst (λ (s : State). s.count ≤ 512 → Held s.count l') (sym same) held) (subst (λ (s : State). c ≤ s.count) (sym same) (omega arith))
      (omega (arith, joined_n l v.state (omega arith))))

  operands-read : (left : ℕ) (l : Listed) (room : List ℕ) → Reads left l room
  unfolding operands_by
  operands-read zero l room f t h low e = fine f t h (omega arith) low
  operands-read (suc left) l room f t h low e = one_read left l h low e (operands-read left) (one l.state room) (read l.state room f t)

-- A list

-- after its operands: its end, or a fault
data Closes (s : State) : State → Type 0 where
  stop : {v : State} → Faulty v → Closes s v
  shut : {at : ℕ} → Closes s (added s at)

module _ (text : List ℕ) (names levels : ℕ) where
  closes_in : (s : State) (t : Token) (w : Word) → Closes s (closed_in text names s levels t w)
  closes_in s t Open = stop (in_range (too_deep levels))
  closes_in s t Close = shut
  closes_in s t (Keyword k) = stop refl
  closes_in s t (Operator op) = stop refl
  closes_in s t (Literal n v) = stop refl
  closes_in s t (Width n) = stop refl
  closes_in s t (Name k) = stop (in_range (too_many text names t))
  closes_in s t Other = stop refl
  closes_in s t End = stop refl

  closes : (l : Listed) → fault_in l.state ≡ 0 → Closes l.state (closed_state text names levels l)
  unfolding closed_state
  closes l f = let t = token_at text l.state.at in rw (eq-eqb (fault_in l.state) 0 f) (closes_in l.state t t.word)

  stays : (l : Listed) → (fault_in l.state ≡ 0 → ⊥) → closed_state text names levels l ≡ l.state
  unfolding closed_state
  stays l h = rw (ne_eqb (fault_in l.state) 0 h)

  closed-read : (c op : ℕ) → 2 ≤ op → op ≤ last_op → (u : Listing) → Listings names c (operands_of op) u → Outcome names c (closed_by text names levels op u)
  closed-read c op low high u (stopped b) = stopped
      (go (closed_state text names levels u.listed) (stays u.listed (not_clean u.listed.state b)))
    where
      go : (v : State) → v ≡ u.listed.state → Faulty v
      go v e = subst Faulty (sym e) b
  closed-read c op low high u (fine f t h n up) = go (closed_state text names levels u.listed) (closes u.listed f)
    where
      k : ℕ
      k = u.listed.state.count

      go : (v : State) → Closes u.listed.state v
          → Outcome names c (record { state = v; room = placed u.room k (term_of u.room op u.listed) })
      go v (stop b) = stopped b
      go v shut =
          fine refl (one_more_lem t (λ b. list_clean t (omega arith) op u.listed low high (h (omega arith)) n))
          (λ i. let (b, e) = more_is k i in omega arith) (omega (arith, more_grows k))

-- Expressions

module _ (text : List ℕ) (names : ℕ) where
  begun-read : (levels : ℕ) (list : ℕ → ℕ → Work) (s : State) (room : List ℕ) → Table names s.count room
      → ((op next : ℕ) → (levels ≡ 0 → ⊥) → 2 ≤ op → op ≤ last_op → Outcome names s.count (list op next))
      → (h : Head) → Begins names levels s h → Outcome names s.count (begun list s room h)
  begun-read levels list s room t later (Done v) (stop b) = stopped b
  begun-read levels list s room t later (Done v) (name f e r) =
      fine f (subst (λ (k : ℕ). Table names k room) (sym e) t) (λ i. omega (arith, r (omega arith) (t.enough (omega arith)))) (omega arith)
  begun-read levels list s room t later (Constant n v next) (constant b) =
      fine refl (one_more_lem t (λ i. constant_clean s.count n v b)) (λ i. let (less, e) = more_is s.count i in omega arith) (more_grows s.count)
  begun-read levels list s room t later (Call op next) (call some low high) = later op next some low high

  pub expression_read : (levels : ℕ) (s : State) (room : List ℕ) → fault_in s ≡ 0 → Table names s.count room
      → Outcome names s.count (expression_of levels text names s room)
  unfolding expression_of
  expression_read zero s room f t =
      begun-read zero (λ op next. record { state = s; room = room }) s room t (λ op next some low high. absurd (some refl))
      (head_of text names s zero) (begins text names s zero f)
  expression_read (suc levels) s room f t =
      begun-read (suc levels) (λ op next. closed_by text names levels op
      (operands_by (expression_of levels text names) (operands_of op) (begin_list s next) room)) s room t
      (λ op next some low high. closed-read text names levels s.count op low high
      (operands_by (expression_of levels text names) (operands_of op) (begin_list s next) room)
      (operands-read names (expression_of levels text names) (expression_read levels) s.count (operands_of op)
      (few-operands (fields_of (rank_of (op_of op)))) (operands_of op) (begin_list s next) room f t
      (λ i. record {
        first = λ j. absurd (omega arith);
        second = λ j. absurd (omega arith);
        third = λ j. absurd (omega arith);
        no_second = λ j. refl;
        no_third = λ j. refl;
      }) (omega arith) (omega arith)))
      (head_of text names s (suc levels)) (begins text names s (suc levels) f)
