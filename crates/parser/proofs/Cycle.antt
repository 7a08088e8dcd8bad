-- The two functions that call each other: what each answers, by how the expression begins; and what falls at each call.
-- Assumes nothing.
use mathlib.Core.Path.{◌≡◌, refl, sym, ap, ◌∙◌}
use mathlib.Core.Bool.{cond}
use mathlib.Core.List.{List}
use Prim.Native.Nat.{ℕ, zero, suc, ◌+◌, ◌*◌, ◌-◌, ◌<◌}
use native.Mathlib.Nat.{lt_irrefl, suc-mul}
use native.Mathlib.Numerals.{sub-one}
use native.Mathlib.Omega.{arith}
use lib.Dec.{eqb}
use lib.ListN.{length}
use borrow.Author.Tests.{eq-eqb, ne_eqb}
use Rattle.table.specs.Code.Writing.{placed}
use Rattle.parser.specs.declared.states.State.{State}
use Rattle.parser.specs.declared.states.Listed.{Listed}
use Rattle.parser.specs.declared.states.Head.TheVariants.{Done, Constant, Call}
use Rattle.parser.specs.Expressions.{fault_in, added, head_of, begin_list, joined_to, term_of, constant_term, closed_state, closed_by, operands_by, operands_of, expression_of}
use Rattle.parser.proofs.Moving.{deeper, joined_state, expression_moves}

-- an expression that is done at its first word, a constant, and an operator with its list
done_at : (levels : ℕ) (text : List ℕ) (names : ℕ) (s : State) (room : List ℕ) (v : State) → head_of text names s levels ≡ Done v
    → expression_of levels text names s room ≡ record { state = v; room = room }
unfolding expression_of
done_at zero text names s room v e = rw e
done_at (suc levels) text names s room v e = rw e

constant_at : (levels : ℕ) (text : List ℕ) (names : ℕ) (s : State) (room : List ℕ) (n v next : ℕ) → head_of text names s levels ≡ Constant n v next
    → expression_of levels text names s room ≡ record { state = added s next; room = placed room s.count (constant_term n v) }
unfolding expression_of
constant_at zero text names s room n v next e = rw e
constant_at (suc levels) text names s room n v next e = rw e

call_at : (levels : ℕ) (text : List ℕ) (names : ℕ) (s : State) (room : List ℕ) (op next : ℕ) → head_of text names s levels ≡ Call op next
    → expression_of levels text names s room ≡ closed_by text names (levels - 1) op (operands_by (expression_of (levels - 1) text names) (operands_of op) (begin_list s next) room)
unfolding expression_of
call_at zero text names s room op next e = absurd (lt_irrefl 0 (deeper text names s zero e))
call_at (suc levels) text names s room op next e = rw (e, sub-one (suc levels))

module _ (levels : ℕ) (text : List ℕ) (names : ℕ) (s : State) (room : List ℕ) where
  -- a state and a room are the expression's
  abbrev pub Read : State → List ℕ → Type 0
  Read v room₁ = (v ≡ (expression_of levels text names s room).state) × (room₁ ≡ (expression_of levels text names s room).room)

  pub done : (v : State) → head_of text names s levels ≡ Done v → Read v room
  done v e = rw (done_at levels text names s room v e) (refl, refl)

  pub constant : (n v next : ℕ) → head_of text names s levels ≡ Constant n v next
      → (room₁ : List ℕ) → room₁ ≡ placed room s.count (constant_term n v) → (w : State) → w ≡ added s next → Read w room₁
  constant n v next e room₁ er w ew = rw (constant_at levels text names s room n v next e) (ew, er)

  pub listed : (op next : ℕ) → head_of text names s levels ≡ Call op next
      → (b : Listed) → b ≡ begin_list s next → (left : ℕ) → left ≡ operands_of op
      → (l : Listed) (room₁ : List ℕ)
      → (l ≡ (operands_by (expression_of (levels - 1) text names) left b room).listed) × (room₁ ≡ (operands_by (expression_of (levels - 1) text names) left b room).room)
      → (room₂ : List ℕ) → room₂ ≡ placed room₁ l.state.count (term_of room₁ op l)
      → (v : State) → v ≡ closed_state text names (levels - 1) l
      → Read v room₂
  listed op next e b eb left en l room₁ el room₂ er v ev =
      rw (call_at levels text names s room op next e) (rw (ev, er, el.0, el.1, eb, en) (refl, refl))

-- a list's operands: none left; one that has a fault; one and those after it
module _ (levels : ℕ) (text : List ℕ) (names left : ℕ) (l : Listed) (room : List ℕ) where
  abbrev pub ReadAll : Listed → List ℕ → Type 0
  ReadAll k room₁ = (k ≡ (operands_by (expression_of levels text names) left l room).listed) × (room₁ ≡ (operands_by (expression_of levels text names) left l room).room)

  pub none_left : left ≡ 0 → ReadAll l room
  unfolding operands_by
  none_left e = rw e (refl, refl)

one_left : (levels : ℕ) (text : List ℕ) (names left : ℕ) (l : Listed) (room : List ℕ) → (left ≡ 0 → ⊥)
    → operands_by (expression_of levels text names) left l room
    ≡ cond (eqb (fault_in (expression_of levels text names l.state room).state) 0)
    (operands_by (expression_of levels text names) (left - 1) (joined_to l (expression_of levels text names l.state room).state) (expression_of levels text names l.state room).room)
    (record { listed = joined_to l (expression_of levels text names l.state room).state; room = (expression_of levels text names l.state room).room })
unfolding operands_by
one_left levels text names zero l room n = absurd (n refl)
one_left levels text names (suc left) l room n = rw (sub-one (suc left))

module _ (levels : ℕ) (text : List ℕ) (names left : ℕ) (l : Listed) (room : List ℕ) (n : left ≡ 0 → ⊥) (v : State) (room₁ : List ℕ) (ev : Read levels text names l.state room v room₁) (j : Listed) (ej : j ≡ joined_to l v) where
  pub stopped : (fault_in v ≡ 0 → ⊥) → ReadAll levels text names left l room j room₁
  stopped f =
      let g = ne_eqb (fault_in (expression_of levels text names l.state room).state) 0 (λ z. f (ap (λ (s : State). (fault_in s)) ev.0 ∙ z)) in
      rw (one_left levels text names left l room n, g) (rw (ej, ev.0, ev.1) (refl, refl))

  pub one_more_lem : fault_in v ≡ 0
      → (k : Listed) (room₂ : List ℕ) → ReadAll levels text names (left - 1) j room₁ k room₂ → ReadAll levels text names left l room k room₂
  one_more_lem f k room₂ ek =
      let g = eq-eqb (fault_in (expression_of levels text names l.state room).state) 0 (sym (ap (λ (s : State). (fault_in s)) ev.0) ∙ f) in
      rw (one_left levels text names left l room n, g) (rw (ek.0, ek.1, ej, ev.0, ev.1) (refl, refl))

-- What falls: the levels of parentheses left, and the bytes left

abbrev pub measure : List ℕ → ℕ → ℕ → ℕ
measure text levels at = levels * (2 * length text + 4) + 2 * (length text - at)

level_falls : (levels k n a b : ℕ) → k ≡ 2 * n + 4 → 0 < levels → (levels - 1) * k + 2 * (n - b) + 1 < levels * k + 2 * (n - a)
level_falls zero k n a b e h = absurd (omega arith)
level_falls (suc levels) k n a b e h = let m = suc-mul levels k in rw (sub-one (suc levels)) (omega (arith, m, e))

-- from an expression to its list, from a list to its next operand, and to the rest of the list
pub list-below : (text : List ℕ) (names : ℕ) (s : State) (levels : ℕ) {op next : ℕ} → head_of text names s levels ≡ Call op next
    → (at : ℕ) → measure text (levels - 1) at + 1 < measure text levels s.at
list-below text names s levels e at = level_falls levels (2 * length text + 4) (length text) s.at at refl (deeper text names s levels e)

pub operand_below : (m : ℕ) → m < m + 1
operand_below m = omega arith

bytes_fall : (k n a b : ℕ) → a < b → a < n → k + 2 * (n - b) + 1 < k + 2 * (n - a) + 1
bytes_fall k n a b h i = omega arith

pub rest_below : (levels : ℕ) (text : List ℕ) (names : ℕ) (l : Listed) (room : List ℕ) (v : State) → v ≡ (expression_of levels text names l.state room).state → fault_in v ≡ 0
    → (j : Listed) → j ≡ joined_to l v → measure text levels j.state.at + 1 < measure text levels l.state.at + 1
rest_below levels text names l room v ev f j ej =
    let o = expression_moves levels text names l.state room (sym (ap (λ (s : State). (fault_in s)) ev) ∙ f) in
    let e : j.state.at ≡ (expression_of levels text names l.state room).state.at = ap (λ (k : Listed). k.state.at) ej ∙ ap (λ (s : State). s.at) (joined_state l v) ∙ ap (λ (s : State). s.at) ev in
    rw e (bytes_fall (levels * (2 * length text + 4)) (length text) l.state.at (expression_of levels text names l.state room).state.at o.further o.inside)
