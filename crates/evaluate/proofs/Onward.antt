-- A run that goes on over terms up to one where it stops.
-- Assumes nothing.
use mathlib.Core.Path.{◌≡◌, refl, sym, ap, ◌∙◌}
use mathlib.Core.Bool.{Bool, true, false, cond}
use mathlib.Core.List.{List}
use Prim.Native.Nat.{ℕ, zero, suc, ◌+◌, ◌-◌, ◌≤◌, ◌<◌}
use native.Mathlib.Numerals.{add-one}
use native.Mathlib.Omega.{arith}
use Rattle.table.specs.Folds.{first_from}
use Rattle.table.proofs.Searches.{first_on, first-here, first_past, from}
use Rattle.evaluate.specs.Code.Turns.{on_from}

module _ (stops : ℕ → Bool) (write : List ℕ → ℕ → List ℕ) (n i : ℕ) (room : List ℕ) where
  left : i < n → n - i ≡ suc (n - (i + 1))
  left b = omega arith

  pub on_more : i < n → stops i ≡ false → on_from stops write (n - i) room i ≡ on_from stops write (n - (i + 1)) (write room i) (i + 1)
  unfolding on_from
  on_more b e = rw (left b, e, add-one)

  on_here : i < n → stops i ≡ true → on_from stops write (n - i) room i ≡ room
  unfolding on_from
  on_here b e = rw (left b, e)

  on_past : n ≤ i → on_from stops write (n - i) room i ≡ room
  unfolding on_from
  on_past b =
      let e : n - i ≡ 0 = omega arith in
      rw e

-- of a run from term begin on in a room: it has come to term i
module _ (stops : ℕ → Bool) (write : List ℕ → ℕ → List ℕ) (n begin : ℕ) (entry : List ℕ) where
  pub record Going (i : ℕ) (room : List ℕ) : Type 0 where
    pub within : i ≤ n
    pub next : first_from stops (n - i) i ≡ first_from stops (n - begin) begin
    pub rest : on_from stops write (n - i) room i ≡ on_from stops write (n - begin) entry begin

  pub set_out : begin ≤ n → Going begin entry
  set_out b = record { within = b; next = refl; rest = refl }

  module _ (i : ℕ) (room : List ℕ) (h : Going i room) where
    pub go_on : i < n → stops i ≡ false → Going (i + 1) (write room i)
    go_on b e =
        record {
          within = omega arith;
          next = sym (first_on stops n i b e) ∙ h.next;
          rest = sym (on_more stops write n i room b e) ∙ h.rest;
        }

    -- it stops here, or at the end
    pub stopped : i < n → stops i ≡ true → (i ≡ first_from stops (n - begin) begin) × (room ≡ on_from stops write (n - begin) entry begin)
    stopped b e = (sym (first-here stops n i b e) ∙ h.next, sym (on_here stops write n i room b e) ∙ h.rest)

    pub passed : n ≤ i → (i ≡ first_from stops (n - begin) begin) × (room ≡ on_from stops write (n - begin) entry begin)
    passed b = (sym (first_past stops n i b) ∙ h.next, sym (on_past stops write n i room b) ∙ h.rest)

-- where what each term writes is known, so is the room in the end
module _ (stops : ℕ → Bool) (write : List ℕ → ℕ → List ℕ) (room_at : ℕ → List ℕ) (n : ℕ) (one : (k : ℕ) → k < n → stops k ≡ false → write (room_at k) k ≡ room_at (k + 1)) where
  ran : (left at : ℕ) → at + left ≤ n → on_from stops write left (room_at at) at ≡ room_at (first_from stops left at)
  unfolding on_from first_from
  ran zero at b = refl
  ran (suc left) at b = go (stops at) refl (ran left (suc at) (omega arith))
    where
      go : (s : Bool) → stops at ≡ s → on_from stops write left (room_at (suc at)) (suc at) ≡ room_at (first_from stops left (suc at))
          → cond s (room_at at) (on_from stops write left (write (room_at at) at) (suc at)) ≡ room_at (cond s at (first_from stops left (suc at)))
      go true e rest = refl
      go false e rest = ap (λ (r : List ℕ). on_from stops write left r (suc at)) (one at (omega arith) e ∙ ap room_at (add-one at)) ∙ rest

  -- the term where it stops, and the room there
  pub record Arrived (at : ℕ) (room : List ℕ) : Type 0 where
    pub low : at ≤ first_from stops (n - at) at
    pub high : first_from stops (n - at) at ≤ n
    pub is : on_from stops write (n - at) room at ≡ room_at (first_from stops (n - at) at)

  pub arrived : (at : ℕ) (room : List ℕ) → at ≤ n → room ≡ room_at at → Arrived at room
  arrived at room b e =
      let there = from stops (n - at) at in
      let high : first_from stops (n - at) at ≤ at + (n - at) = there.high in
      record {
        low = there.low;
        high = omega arith;
        is = ap (λ (r : List ℕ). on_from stops write (n - at) r at) e ∙ ran (n - at) at (omega arith);
      }
