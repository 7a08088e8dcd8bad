-- A lookup among cells, turn by turn.
-- Assumes nothing.
use mathlib.Core.Path.{◌≡◌, refl, sym, ap, ◌∙◌}
use mathlib.Core.Bool.{Bool, true, false, cond}
use Prim.Native.Nat.{ℕ, zero, suc, ◌+◌, ◌-◌, ◌≤◌, ◌<◌}
use native.Mathlib.Numerals.{add-one}
use native.Mathlib.Omega.{arith}
use Rattle.setting.specs.declared.cells.Cell.{Cell}
use Rattle.setting.specs.Cells.{matches, look_from}

module _ (cells : ℕ → Cell) (n slot index other : ℕ) where
  -- the lookup has come to cell k: what is left of it is the whole
  pub record Looked (k : ℕ) : Type 0 where
    pub within : k ≤ n
    pub same : look_from cells n 0 slot index other ≡ look_from cells (n - k) k slot index other

  pub begun : Looked 0
  begun =
      let e : n ≡ n - 0 = omega arith in
      record { within = omega arith; same = ap (λ (left : ℕ). look_from cells left 0 slot index other) e }

  module _ (k : ℕ) (h : Looked k) where
    pub through : n ≤ k → other ≡ look_from cells n 0 slot index other
    unfolding look_from
    through end =
        let e : n - k ≡ 0 = omega arith in
        sym (h.same ∙ rw e)

    module _ (inside : k < n) (c : Cell) (here : c ≡ cells k) where
      left : n - k ≡ suc (n - (k + 1))
      left = omega arith

      match_here : (b : Bool) → matches c slot index ≡ b → matches (cells k) slot index ≡ b
      match_here b e = ap (λ (d : Cell). matches d slot index) (sym here) ∙ e

      pub on : matches c slot index ≡ false → Looked (k + 1)
      unfolding look_from
      on e = record { within = omega arith; same = h.same ∙ rw (left, match_here false e, add-one) }

      pub stop : matches c slot index ≡ true → c.value ≡ look_from cells n 0 slot index other
      unfolding look_from
      stop e = ap (λ (d : Cell). d.value) here ∙ sym (h.same ∙ rw (left, match_here true e))

-- what holds of the other, and of every cell with the slot and index, holds of what is found
pub look-all : (P : ℕ → Type 0) (cells : ℕ → Cell) (left at slot index other : ℕ) → P other
    → ((k : ℕ) → k < at + left → matches (cells k) slot index ≡ true → P (cells k).value) → P (look_from cells left at slot index other)
unfolding look_from
look-all P cells zero at slot index other p all = p
look-all P cells (suc left) at slot index other p all =
    go (matches (cells at) slot index) refl (look-all P cells left (suc at) slot index other p (λ k b e. all k (omega arith) e))
  where
    go : (b : Bool) → matches (cells at) slot index ≡ b → P (look_from cells left (suc at) slot index other) → P (cond b (cells at).value (look_from cells left (suc at) slot index other))
    go true e q = all at (omega arith) e
    go false e q = q
