-- An expression is read without a fault just where the grammar has one that meets 32 to 34.
-- Assumes nothing.
use Rattle.parser.specs.declared.states.Fault.TheVariants as fault_kind
use Rattle.std.specs.Prelude.{None}
use mathlib.Core.Path.{◌≡◌, refl, sym, ap, ◌∙◌, subst}
use mathlib.Core.Bool.{Bool, true, false, cond, ◌&&◌}
use mathlib.Core.List.{List}
use Prim.Native.Nat.{ℕ, zero, suc}
use native.Mathlib.Omega.{arith}
use lib.Dec.{eqb, ltb}
use lib.ListN.{length}
use borrow.Author.Tests.{eq-eqb, ne_eqb, eqb-true, eqb-false}
use Rattle.smtlib.specs.Bytes.{part, place_in, is_in}
use Rattle.smtlib.proofs.Cuts.{and_left, and_right}
use Rattle.table.specs.Code.Writing.{placed}
use Rattle.parser.specs.declared.words.Word.{Word}
use Rattle.parser.specs.declared.words.Word.TheVariants.{Open, Close, Keyword, Operator, Literal, Width, Name, Other, End}
use Rattle.parser.specs.declared.words.Token.{Token}
use Rattle.parser.specs.declared.states.State.{State}
use Rattle.parser.specs.declared.states.Listed.{Listed}
use Rattle.parser.specs.declared.states.Head.{Head}
use Rattle.parser.specs.declared.states.Head.TheVariants.{Done, Constant, Call}
use Rattle.parser.specs.Words.{token_at}
use Rattle.parser.specs.Names.{index_of, declared}
use Rattle.parser.proofs.Faults.{some_number}
use Rattle.parser.specs.Expressions.{too_few, too_deep, too_many, fault_in, Work, Listing, faulty_at, added, number, operator_in, head_in, head_of, begin_list, joined_to, constant_term, closed_in, closed_state, closed_by, operands_by, operands_of, expression_of}
use Rattle.parser.specs.Grammar.{Tree, Trees, Stands, Named, Expression, Operands}
use Rattle.parser.specs.Grammar.Tree.{literal, symbol, apply}
use Rattle.parser.specs.Grammar.Trees.{nil, cons}
use Rattle.parser.specs.Grammar.Expression.{constant, name, list}
use Rattle.parser.specs.Grammar.Operands.{none, more}
use Rattle.parser.specs.Trees.{knows, knows_all, within, all_within, count, counted, all_counted}

pub both : {a b : Bool} → a ≡ true → b ≡ true → a && b ≡ true
both {a} {b} e f = rw (e, f)

pub never : false ≡ true → ⊥
never e = let z : ◌≡◌ {A = ℕ} 0 1 = ap (λ (b : Bool). cond b 1 0) e in omega arith

some_fault : {k : ℕ} → (suc k ≡ 0) → ⊥
some_fault e = omega arith

pub joined_state : (l : Listed) (s : State) → (joined_to l s).state ≡ s
unfolding joined_to
joined_state l s = go (eqb l.n 0) (eqb l.n 1)
  where
    go : (a b : Bool) → (cond {A = Listed} a (record { state = s; n = 1; p = s.root; q = 0; r = 0 }) (cond b (record { state = s; n = 2; p = l.p; q = s.root; r = 0 }) (record { state = s; n = 3; p = l.p; q = l.q; r = s.root }))).state ≡ s
    go true b = refl
    go false true = refl
    go false false = refl

-- the names that are declared, and their scan
pub record Known (text : List ℕ) (names : ℕ) (ws : List (List ℕ)) : Type 0 where
  pub index : (w : List ℕ) → index_of text names w ≡ place_in ws w
  pub many : names ≡ length ws

pub declared_is : {text : List ℕ} {names : ℕ} {ws : List (List ℕ)} → Known text names ws → (w : List ℕ) → declared text names w ≡ is_in ws w
declared_is {text} {names} {ws} k w = ap (λ (i : ℕ). ltb i names) (k.index w) ∙ ap (ltb (place_in ws w)) k.many

module _ (text : List ℕ) (names : ℕ) where
  abbrev pub operands_read : ℕ → ℕ → Listed → List ℕ → Listing
  operands_read levels left l room = operands_by (expression_of levels text names) left l room

  -- one step of an expression
  pub done_at : (levels : ℕ) (s : State) (room : List ℕ) (v : State) → head_of text names s levels ≡ Done v → expression_of levels text names s room ≡ record { state = v; room = room }
  unfolding expression_of
  done_at zero s room v e = rw e
  done_at (suc levels) s room v e = rw e

  pub constant_at : (levels : ℕ) (s : State) (room : List ℕ) (n v next : ℕ) → head_of text names s levels ≡ Constant n v next
      → expression_of levels text names s room ≡ record { state = added s next; room = placed room s.count (constant_term n v) }
  unfolding expression_of
  constant_at zero s room n v next e = rw e
  constant_at (suc levels) s room n v next e = rw e

  pub call_at : (levels : ℕ) (s : State) (room : List ℕ) (op next : ℕ) → head_of text names s (suc levels) ≡ Call op next
      → expression_of (suc levels) text names s room ≡ closed_by text names levels op (operands_read levels (operands_of op) (begin_list s next) room)
  unfolding expression_of
  call_at levels s room op next e = rw e

  -- one step of a list: an operand without a fault, then the rest
  pub operand_at : (levels left : ℕ) (l : Listed) (room : List ℕ) → (fault_in (expression_of levels text names l.state room).state) ≡ 0
      → operands_read levels (suc left) l room
      ≡ operands_read levels left (joined_to l (expression_of levels text names l.state room).state) (expression_of levels text names l.state room).room
  unfolding operands_by
  operand_at levels left l room f = rw (eq-eqb _ _ f)

-- A derivation is followed

module _ (text : List ℕ) (names : ℕ) (s : State) (levels : ℕ) (clean : fault_in s ≡ 0) where
  pub head_constant : {from n v to : ℕ} → s.at ≡ from → Stands text from (Literal n v) to → head_of text names s levels ≡ Constant n v to
  unfolding head_of
  head_constant e w = rw (eq-eqb _ _ clean, e, w.here, w.after)

  pub head_name : {from to : ℕ} {w : List ℕ} → s.at ≡ from → Named text from w to → declared text names w ≡ true
      → head_of text names s levels ≡ Done (record { at = to; count = s.count; root = number (index_of text names w); fault = None })
  unfolding head_of
  head_name e w d = rw (eq-eqb _ _ clean, e, w.stands.here, w.bytes_are, d, w.stands.after)

  pub head_call : {from a op b : ℕ} → s.at ≡ from → Stands text from Open a → Stands text a (Operator op) b → head_of text names s (suc levels) ≡ Call op b
  unfolding head_of
  head_call e w v = rw (eq-eqb _ _ clean, e, w.here, w.after, v.here, v.after, ne_eqb (suc levels) 0 (λ z. omega arith))

pub closed_close : (text : List ℕ) (names levels : ℕ) (l : Listed) {c to : ℕ} → fault_in l.state ≡ 0 → l.state.at ≡ c → Stands text c Close to
    → closed_state text names levels l ≡ added l.state to
unfolding closed_state
closed_close text names levels l clean e w = rw (eq-eqb _ _ clean, e, w.here, w.after)

-- what is read, with no fault up to a place
pub record Read (text : List ℕ) (names levels : ℕ) (s : State) (room : List ℕ) (to : ℕ) : Type 0 where
  pub clean : (fault_in (expression_of levels text names s room).state) ≡ 0
  pub place : (expression_of levels text names s room).state.at ≡ to

record ReadAll (text : List ℕ) (names levels left : ℕ) (l : Listed) (room : List ℕ) (to : ℕ) : Type 0 where
  clean : (fault_in (operands_read text names levels left l room).listed.state) ≡ 0
  place : (operands_read text names levels left l room).listed.state.at ≡ to

mutual
  unfolding operands_by knows within count counted

  pub follows : {text : List ℕ} {names : ℕ} {ws : List (List ℕ)} {from to : ℕ} {t : Tree} → Known text names ws → Expression text from t to → (levels : ℕ) (s : State) (room : List ℕ) → fault_in s ≡ 0 → s.at ≡ from
      → knows ws t ≡ true → within levels t ≡ true → counted t ≡ true → Read text names levels s room to
  follows {text} {names} k (constant {n = n} {v = v} {to = to} w) levels s room f e kn wi co =
      let d = constant_at text names levels s room n v to (head_constant text names s levels f e w) in
      record { clean = ap (λ (x : Work). (fault_in x.state)) d; place = ap (λ (x : Work). x.state.at) d }
  follows {text} {names} k (name {w = w} n) levels s room f e kn wi co =
      let d = done_at text names levels s room _ (head_name text names s levels f e n (declared_is k w ∙ kn)) in
      record { clean = ap (λ (x : Work). (fault_in x.state)) d; place = ap (λ (x : Work). x.state.at) d }
  follows k (list o p os c) zero s room f e kn wi co = absurd (never wi)
  follows {text} {names} k (list {op = op} {b = b} {ts = ts} o p os c) (suc levels) s room f e kn wi co =
      let d = call_at text names levels s room op b (head_call text names s levels f e o p) in
      let n = eqb-true (count ts) (operands_of op) (and_left (eqb (count ts) (operands_of op)) (all_counted ts) co) in
      let r = follow k os levels (operands_of op) n (begin_list s b) room f refl kn wi (and_right (eqb (count ts) (operands_of op)) (all_counted ts) co) in
      let z = closed_close text names levels (operands_read text names levels (operands_of op) (begin_list s b) room).listed r.clean r.place c in
      record { clean = ap (λ (x : Work). (fault_in x.state)) d ∙ ap (λ (x : State). (fault_in x)) z; place = ap (λ (x : Work). x.state.at) d ∙ ap (λ (x : State). x.at) z }

  follow : {text : List ℕ} {names : ℕ} {ws : List (List ℕ)} {from to : ℕ} {ts : Trees} → Known text names ws → Operands text from ts to → (levels left : ℕ) → count ts ≡ left → (l : Listed) (room : List ℕ) → fault_in l.state ≡ 0 → l.state.at ≡ from
      → knows_all ws ts ≡ true → all_within levels ts ≡ true → all_counted ts ≡ true → ReadAll text names levels left l room to
  follow k none levels zero n l room f e kn wi co = record { clean = f; place = e }
  follow k none levels (suc left) n l room f e kn wi co = absurd (omega arith)
  follow k (more t ts) levels zero n l room f e kn wi co = absurd (omega arith)
  follow {text} {names} {ws} k (more {t = t} {ts = ts} x xs) levels (suc left) n l room f e kn wi co =
      let h = follows k x levels l.state room f e (and_left (knows ws t) (knows_all ws ts) kn) (and_left (within levels t) (all_within levels ts) wi) (and_left (counted t) (all_counted ts) co) in
      let v = expression_of levels text names l.state room in
      let r = follow k xs levels left (omega arith) (joined_to l v.state) v.room (ap (λ (s : State). (fault_in s)) (joined_state l v.state) ∙ h.clean) (ap (λ (s : State). s.at) (joined_state l v.state) ∙ h.place)
      (and_right (knows ws t) (knows_all ws ts) kn) (and_right (within levels t) (all_within levels ts) wi) (and_right (counted t) (all_counted ts) co) in
      let d = operand_at text names levels left l room h.clean in
      record { clean = ap (λ (u : Listing). (fault_in u.listed.state)) d ∙ r.clean; place = ap (λ (u : Listing). u.listed.state.at) d ∙ r.place }

-- Where there is no fault there is a derivation

-- what the first words say
data Begins (text : List ℕ) (names : ℕ) (s : State) : ℕ → Head → Type 0 where
  constant_here : {levels n v to : ℕ} → Stands text s.at (Literal n v) to → Begins text names s levels (Constant n v to)
  named_here : {levels to : ℕ} {w : List ℕ} {v : State} → Named text s.at w to → declared text names w ≡ true → v.at ≡ to → Begins text names s levels (Done v)
  faulty_here : {levels : ℕ} {v : State} → (fault_in v ≡ 0 → ⊥) → Begins text names s levels (Done v)
  list_here : {levels op a b : ℕ} → Stands text s.at Open a → Stands text a (Operator op) b → Begins text names s (suc levels) (Call op b)

module _ (text : List ℕ) (names : ℕ) (s : State) where
  begins_operator : (levels a : ℕ) (t : Token) (w : Word) → Stands text s.at Open a → token_at text a ≡ t → t.word ≡ w → Begins text names s (suc levels) (operator_in s t w)
  begins_operator levels a t Open o e f = faulty_here some_fault
  begins_operator levels a t Close o e f = faulty_here some_fault
  begins_operator levels a t (Keyword k) o e f = faulty_here some_fault
  begins_operator levels a t (Operator n) o e f = list_here o (record { here = ap (λ (x : Token). x.word) e ∙ f; after = ap (λ (x : Token). x.next) e })
  begins_operator levels a t (Literal n v) o e f = faulty_here some_fault
  begins_operator levels a t (Width n) o e f = faulty_here some_fault
  begins_operator levels a t (Name k) o e f = faulty_here some_fault
  begins_operator levels a t Other o e f = faulty_here some_fault
  begins_operator levels a t End o e f = faulty_here some_fault

  begins_open : (levels : ℕ) (t : Token) → Stands text s.at Open t.next → Begins text names s levels (head_in text names s levels t (token_at text t.next) Open)
  begins_open zero t o = faulty_here some_fault
  begins_open (suc levels) t o =
      rw (ne_eqb (suc levels) 0 some_fault) (begins_operator levels t.next (token_at text t.next) (token_at text t.next).word o refl refl)

  begins_name : (levels : ℕ) {w : List ℕ} {to : ℕ} (b : Bool) (v : State) → Named text s.at w to → declared text names w ≡ b → v.at ≡ to → (place : ℕ) → Begins text names s levels (Done (cond b v (faulty_at s fault_kind.Undeclared place)))
  begins_name levels true v n d e place = named_here n d e
  begins_name levels false v n d e place = faulty_here some_fault

  begins_in : (levels : ℕ) (w : Word) → (token_at text s.at).word ≡ w → Begins text names s levels (head_in text names s levels (token_at text s.at) (token_at text (token_at text s.at).next) w)
  begins_in levels Open e = begins_open levels (token_at text s.at) (record { here = e; after = refl })
  begins_in levels Close e = faulty_here (some_number (too_few levels))
  begins_in levels (Keyword k) e = faulty_here some_fault
  begins_in levels (Operator n) e = faulty_here some_fault
  begins_in levels (Literal n v) e = constant_here (record { here = e; after = refl })
  begins_in levels (Width n) e = faulty_here some_fault
  begins_in levels (Name k) e =
      let t = token_at text s.at in
      let w = part text t.from t.next in
      begins_name levels (declared text names w) _ (record { sort = k; stands = record { here = e; after = refl }; bytes_are = refl }) refl refl t.from
  begins_in levels Other e = faulty_here some_fault
  begins_in levels End e = faulty_here some_fault

  begins_by : (levels : ℕ) (b : Bool) → eqb (fault_in s) 0 ≡ b → Begins text names s levels (cond b (head_in text names s levels (token_at text s.at) (token_at text (token_at text s.at).next) (token_at text s.at).word) (Done s))
  begins_by levels true e = begins_in levels (token_at text s.at).word refl
  begins_by levels false e = faulty_here (eqb-false _ _ e)

  begins : (levels : ℕ) → Begins text names s levels (head_of text names s levels)
  unfolding head_of
  begins levels = begins_by levels (eqb (fault_in s) 0) refl

-- a list that is closed without a fault
record Closes (text : List ℕ) (l : Listed) (v : State) : Type 0 where
  clean : fault_in l.state ≡ 0
  stands : Stands text l.state.at Close v.at

module _ (text : List ℕ) (names levels : ℕ) (l : Listed) where
  closes_in : (w : Word) → fault_in l.state ≡ 0 → (token_at text l.state.at).word ≡ w → (fault_in (closed_in text names l.state levels (token_at text l.state.at) w)) ≡ 0
      → Closes text l (closed_in text names l.state levels (token_at text l.state.at) w)
  closes_in Open f e z = absurd (some_number (too_deep levels) z)
  closes_in Close f e z = record { clean = f; stands = record { here = e; after = refl } }
  closes_in (Keyword k) f e z = absurd (some_fault z)
  closes_in (Operator n) f e z = absurd (some_fault z)
  closes_in (Literal n v) f e z = absurd (some_fault z)
  closes_in (Width n) f e z = absurd (some_fault z)
  closes_in (Name k) f e z = absurd (some_number (too_many text names (token_at text l.state.at)) z)
  closes_in Other f e z = absurd (some_fault z)
  closes_in End f e z = absurd (some_fault z)

  closes_by : (b : Bool) → eqb (fault_in l.state) 0 ≡ b
      → (v : State) → v ≡ cond b (closed_in text names l.state levels (token_at text l.state.at) (token_at text l.state.at).word) l.state → fault_in v ≡ 0 → Closes text l v
  closes_by true e v z f = rw z (closes_in (token_at text l.state.at).word (eqb-true _ _ e) refl (ap (λ (x : State). (fault_in x)) (sym z) ∙ f))
  closes_by false e v z f = absurd (eqb-false _ _ e (ap (λ (x : State). (fault_in x)) (sym z) ∙ f))

  closes : (fault_in (closed_state text names levels l)) ≡ 0 → Closes text l (closed_state text names levels l)
  unfolding closed_state
  closes f = closes_by (eqb (fault_in l.state) 0) refl _ refl f

-- a list without a fault begins with an operand without one
module _ (text : List ℕ) (names levels : ℕ) where
  operand_clean : (left : ℕ) (l : Listed) (room : List ℕ) → (fault_in (operands_read text names levels (suc left) l room).listed.state) ≡ 0 → (fault_in (expression_of levels text names l.state room).state) ≡ 0
  unfolding operands_by
  operand_clean left l room f = go (eqb (fault_in v.state) 0) refl f
    where
      v : Work
      v = expression_of levels text names l.state room

      go : (b : Bool) → eqb (fault_in v.state) 0 ≡ b
          → (fault_in (cond {A = Listing} b (operands_read text names levels left (joined_to l v.state) v.room) (record { listed = joined_to l v.state; room = v.room })).listed.state) ≡ 0 → fault_in v.state ≡ 0
      go true e g = eqb-true _ _ e
      go false e g = ap (λ (s : State). (fault_in s)) (sym (joined_state l v.state)) ∙ g

-- an expression that meets 32 to 34, from a place to another
pub record Derived (text : List ℕ) (ws : List (List ℕ)) (levels from to : ℕ) : Type 0 where
  pub tree : Tree
  pub reads : Expression text from tree to
  pub known : knows ws tree ≡ true
  pub deep : within levels tree ≡ true
  pub full : counted tree ≡ true

record DerivedAll (text : List ℕ) (ws : List (List ℕ)) (levels left from to : ℕ) : Type 0 where
  trees : Trees
  reads : Operands text from trees to
  many : count trees ≡ left
  known : knows_all ws trees ≡ true
  deep : all_within levels trees ≡ true
  full : all_counted trees ≡ true

module _ (text : List ℕ) (names : ℕ) (ws : List (List ℕ)) (k : Known text names ws) where
  unfoldable pub Reading : ℕ → Type 0
  Reading levels = (s : State) (room : List ℕ) → (fault_in (expression_of levels text names s room).state) ≡ 0 → Derived text ws levels s.at (expression_of levels text names s room).state.at

  -- a list's operands, from what is known of expressions at its level
  derives_list : (levels left : ℕ) → Reading levels → (l : Listed) (room : List ℕ) → (fault_in (operands_read text names levels left l room).listed.state) ≡ 0
      → DerivedAll text ws levels left l.state.at (operands_read text names levels left l room).listed.state.at
  unfolding operands_by Reading count knows within counted
  derives_list levels zero below l room f = record { trees = nil; reads = none; many = refl; known = refl; deep = refl; full = refl }
  derives_list levels (suc left) below l room f =
      let v = expression_of levels text names l.state room in
      let j = joined_to l v.state in
      let clean = operand_clean text names levels left l room f in
      let d = operand_at text names levels left l room clean in
      let h = below l.state room clean in
      let r = derives_list levels left below j v.room (ap (λ (u : Listing). (fault_in u.listed.state)) (sym d) ∙ f) in
      subst (λ (u : Listing). DerivedAll text ws levels (suc left) l.state.at u.listed.state.at) (sym d)
      (record {
        trees = cons h.tree r.trees;
        reads = more h.reads (subst (λ (i : ℕ). Operands text i r.trees (operands_read text names levels left j v.room).listed.state.at) (ap (λ (s : State). s.at) (joined_state l v.state)) r.reads);
        many = ap suc r.many;
        known = both h.known r.known;
        deep = both h.deep r.deep;
        full = both h.full r.full;
      })

  module _ (levels : ℕ) (s : State) (room : List ℕ) (f : (fault_in (expression_of levels text names s room).state) ≡ 0) where
    derives_constant : (n v to : ℕ) → head_of text names s levels ≡ Constant n v to → Stands text s.at (Literal n v) to → Derived text ws levels s.at (expression_of levels text names s room).state.at
    unfolding knows within counted
    derives_constant n v to e w =
        rw (constant_at text names levels s room n v to e) (record { tree = literal n v; reads = constant w; known = refl; deep = refl; full = refl })

    derives_name : (v : State) → head_of text names s levels ≡ Done v → {w : List ℕ} {to : ℕ} → Named text s.at w to → declared text names w ≡ true → v.at ≡ to
        → Derived text ws levels s.at (expression_of levels text names s room).state.at
    unfolding knows within counted
    derives_name v e {w} {to} n d p =
        rw (done_at text names levels s room v e, p) (record { tree = symbol w; reads = name n; known = sym (declared_is k w) ∙ d; deep = refl; full = refl })

    no-fault : (v : State) → head_of text names s levels ≡ Done v → (fault_in v ≡ 0 → ⊥) → ⊥
    no-fault v e n = n (ap (λ (x : Work). (fault_in x.state)) (sym (done_at text names levels s room v e)) ∙ f)

  derives_zero : (s : State) (room : List ℕ) (h : Head) → head_of text names s 0 ≡ h → Begins text names s 0 h → (fault_in (expression_of 0 text names s room).state) ≡ 0
      → Derived text ws 0 s.at (expression_of 0 text names s room).state.at
  derives_zero s room h e (constant_here {n = n} {v = v} {to = to} w) f = derives_constant 0 s room f n v to e w
  derives_zero s room h e (named_here {v = v} w d p) f = derives_name 0 s room f v e w d p
  derives_zero s room h e (faulty_here {v = v} n) f = absurd (no-fault 0 s room f v e n)

  derives_suc : (levels : ℕ) → Reading levels → (s : State) (room : List ℕ) (h : Head) → head_of text names s (suc levels) ≡ h → Begins text names s (suc levels) h → (fault_in (expression_of (suc levels) text names s room).state) ≡ 0
      → Derived text ws (suc levels) s.at (expression_of (suc levels) text names s room).state.at
  unfolding knows within counted
  derives_suc levels below s room h e (constant_here {n = n} {v = v} {to = to} w) f = derives_constant (suc levels) s room f n v to e w
  derives_suc levels below s room h e (named_here {v = v} w d p) f = derives_name (suc levels) s room f v e w d p
  derives_suc levels below s room h e (faulty_here {v = v} n) f = absurd (no-fault (suc levels) s room f v e n)
  derives_suc levels below s room h e (list_here {op = op} {b = b} o p) f =
      let d = call_at text names levels s room op b e in
      let c = closes text names levels (operands_read text names levels (operands_of op) (begin_list s b) room).listed (ap (λ (x : Work). (fault_in x.state)) (sym d) ∙ f) in
      let r = derives_list levels (operands_of op) below (begin_list s b) room c.clean in
      subst (λ (i : ℕ). Derived text ws (suc levels) s.at i) (ap (λ (x : Work). x.state.at) (sym d))
      (record { tree = apply op r.trees; reads = list o p r.reads c.stands; known = r.known; deep = r.deep; full = both (eq-eqb _ _ r.many) r.full })

  pub derives : (levels : ℕ) → Reading levels
  unfolding Reading
  derives zero s room f = derives_zero s room (head_of text names s 0) refl (begins text names s 0) f
  derives (suc levels) s room f = derives_suc levels (derives levels) s room (head_of text names s (suc levels)) refl (begins text names s (suc levels)) f
