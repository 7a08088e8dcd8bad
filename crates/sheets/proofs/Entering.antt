-- A line entered slot by slot.
-- Assumes nothing.
use mathlib.Core.Path.{◌≡◌, refl, sym, ap, ◌∙◌}
use mathlib.Core.Bool.{Bool, true, false, ◌&&◌}
use mathlib.Core.List.{List}
use Prim.Native.Nat.{ℕ, ◌+◌, ◌≤◌, ◌<◌}
use native.Mathlib.Decide.{ℕ_discrete}
use native.Mathlib.Omega.{arith}
use lib.Dec.{leb, ltb}
use lib.ListN.{length, get_or, set, length-set}
use lib.Seq.{get_or-set_same, get_or-set_other}
use borrow.Author.Tests.{leb-true, le-leb, lt-leb, lt-ltb, ltb-true, ltb-false}
use Rattle.ops.proofs.Booleans.{never, and_parts, and_shut}
use Rattle.sheets.specs.declared.lines.Line.{Line}
use Rattle.sheets.specs.Code.Said.{weight, higher, over_by, Over}

-- a slot that the loop is at
pub inside : (at highest : ℕ) → (leb at highest && ltb at 256) ≡ true → (at ≤ highest) × (at < 256)
inside at highest e =
    let both = and_parts (leb at highest) (ltb at 256) e in
    (leb-true at highest both.0, ltb-true at 256 both.1)

module _ (before : List ℕ) (line : Line) where
  -- the slots below at have it, the others are as they were
  pub record Entered (row : List ℕ) (at : ℕ) : Type 0 where
    pub size : length row ≡ length before
    pub low : line.lowest ≤ at
    pub done : (k : ℕ) → k < at → get_or row k 0 ≡ over_by (get_or before k 0) line k
    pub rest : (k : ℕ) → at ≤ k → get_or row k 0 ≡ get_or before k 0

  below : (k : ℕ) → k < line.lowest → get_or before k 0 ≡ over_by (get_or before k 0) line k
  below k b = rw (lt-leb line.lowest k b)

  pub none-entered : Entered before line.lowest
  none-entered = record { size = refl; low = omega arith; done = below; rest = λ k b. refl }

  module _ (row : List ℕ) (at : ℕ) (h : Entered row at) where
    -- one slot more
    pub one_entered : at ≤ line.highest → at < length before → Entered (set row at (higher (get_or row at 0) (weight line.kind))) (at + 1)
    one_entered inside long =
        record {
          size = length-set row at _ ∙ h.size;
          low = let b : line.lowest ≤ at = h.low in omega arith;
          done = λ k b. go k b (ℕ_discrete k at);
          rest = λ k b. get_or-set_other row at k _ 0 (λ e. absurd (omega (arith, e, b))) ∙ h.rest k (omega arith);
        }
      where
        go : (k : ℕ) → k < at + 1 → Dec (k ≡ at) → get_or (set row at (higher (get_or row at 0) (weight line.kind))) k 0 ≡ over_by (get_or before k 0) line k
        go k b (yes e) =
            ap (λ (i : ℕ). get_or (set row at (higher (get_or row at 0) (weight line.kind))) i 0) e
            ∙ get_or-set_same row at _ 0 (omega (arith, h.size, long))
            ∙ ap (λ (x : ℕ). higher x (weight line.kind)) (h.rest at (omega arith))
            ∙ sym (ap (λ (i : ℕ). over_by (get_or before i 0) line i) e ∙ rw (le-leb line.lowest at h.low, le-leb at line.highest inside))
        go k b (no e) = get_or-set_other row at k _ 0 e ∙ h.done k (omega arith)

    -- all of them, where the next is past the highest or past the row
    pub all-entered : (leb at line.highest && ltb at 256) ≡ false → Over before row line
    all-entered past = record { size = h.size; is = λ k b. go k b (ltb k at) refl }
      where
        outside : (k : ℕ) → k < 256 → at ≤ k → (t : Bool) → leb k line.highest ≡ t → get_or before k 0 ≡ over_by (get_or before k 0) line k
        outside k b c true e =
            let high : k ≤ line.highest = leb-true k line.highest e in
            never (sym past ∙ rw (le-leb at line.highest (omega arith), lt-ltb at 256 (omega arith)))
        outside k b c false e = rw (e, and_shut (leb line.lowest k))

        go : (k : ℕ) → k < 256 → (t : Bool) → ltb k at ≡ t → get_or row k 0 ≡ over_by (get_or before k 0) line k
        go k b true e = h.done k (ltb-true k at e)
        go k b false e = h.rest k (ltb-false k at e) ∙ outside k b (ltb-false k at e) (leb k line.highest) refl
