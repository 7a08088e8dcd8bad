-- Ways through a text byte by byte: back to an open parenthesis, and on to the first byte of a rule.
-- Assumes nothing.
use mathlib.Core.Path.{◌≡◌, refl, sym, ap, ◌∙◌}
use mathlib.Core.Bool.{Bool, true, false, cond, ◌&&◌, ◌||◌}
use mathlib.Core.List.{List}
use Prim.Native.Nat.{ℕ, zero, suc, ◌+◌, ◌-◌, ◌≤◌, ◌<◌}
use native.Mathlib.Numerals.{add-one, unary_clauses}
use native.Mathlib.Omega.{arith}
use lib.Dec.{eqb}
use lib.ListN.{length, drop, get_or, drop_of_length-le}
use lib.Seq.{drop-cons}
use Rattle.cases.specs.Bytes.{white}
use Rattle.outline.specs.declared.lines.Stand.{Stand}
use Rattle.outline.specs.declared.lines.Stand.TheVariants.{Begin}
use Rattle.outline.specs.Spans.{back, open_before}
use Rattle.outline.specs.Lines.{noted, line_after, rule_from}

pub back-most : (b depth : ℕ) → back b depth ≤ depth + 1
back-most b depth = go (eqb b 41) (eqb b 40)
  where
    go : (x y : Bool) → cond x (depth + 1) (cond y (depth - 1) depth) ≤ depth + 1
    go true y = omega arith
    go false true = omega arith
    go false false = omega arith

-- back to byte k, with so many parentheses closed behind it
pub record Back (text : List ℕ) (place k depth : ℕ) : Type 0 where
  pub low : depth + k ≤ place
  pub is : open_before text k depth ≡ open_before text place 0

pub back-begun : (text : List ℕ) (place : ℕ) → Back text place place 0
back-begun text place = record { low = omega arith; is = refl }

-- one byte further back
turn : (text : List ℕ) (k depth : ℕ) → 0 < k
    → open_before text k depth ≡ cond (eqb (get_or text (k - 1) 0) 40 && eqb depth 0) (k - 1) (open_before text (k - 1) (back (get_or text (k - 1) 0) depth))
unfolding open_before
turn text zero depth h = absurd (omega arith)
turn text (suc k) depth h = simp unary_clauses

module _ (text : List ℕ) (place k depth : ℕ) (h : Back text place k depth) where
  pub back_none : k ≡ 0 → length text ≡ open_before text place 0
  unfolding open_before
  back_none z = sym (ap (λ (n : ℕ). open_before text n depth) z) ∙ h.is

  module _ (b : ℕ) (low : 0 < k) (e : b ≡ get_or text (k - 1) 0) where
    here : cond (eqb b 40 && eqb depth 0) (k - 1) (open_before text (k - 1) (back b depth)) ≡ open_before text place 0
    here = rw e (sym (turn text k depth low) ∙ h.is)

    pub back_found : (eqb b 40 && eqb depth 0) ≡ true → k - 1 ≡ open_before text place 0
    back_found t = rw t at here

    pub back_on : (eqb b 40 && eqb depth 0) ≡ false → (d : ℕ) → d ≡ back b depth → Back text place (k - 1) d
    back_on t d f = record { low = omega (arith, h.low, back-most b depth, f); is = rw f (rw t at here) }

-- on to byte i of a text that may be a rule
module _ (text : List ℕ) (s : Stand) (i : ℕ) (h : rule_from s (drop i text) ≡ rule_from Begin text) where
  pub rule_none : length text ≤ i → false ≡ rule_from Begin text
  unfolding rule_from
  rule_none b = sym (ap (rule_from s) (drop_of_length-le text b)) ∙ h

  module _ (low : i < length text) where
    abbrev byte : ℕ
    byte = get_or text i 0

    at_byte : cond (white byte || noted s byte) (rule_from (line_after s byte) (drop (i + 1) text)) (eqb byte 40) ≡ rule_from Begin text
    unfolding rule_from
    at_byte =
        ap (λ (n : ℕ). cond (white byte || noted s byte) (rule_from (line_after s byte) (drop n text)) (eqb byte 40)) (add-one i)
        ∙ sym (ap (rule_from s) (drop-cons text i 0 low))
        ∙ h

    pub rule_found : (white byte || noted s byte) ≡ false → eqb byte 40 ≡ rule_from Begin text
    rule_found t = ap (λ (x : Bool). cond x (rule_from (line_after s byte) (drop (i + 1) text)) (eqb byte 40)) (sym t) ∙ at_byte

    pub rule_on : (white byte || noted s byte) ≡ true → rule_from (line_after s byte) (drop (i + 1) text) ≡ rule_from Begin text
    rule_on t = ap (λ (x : Bool). cond x (rule_from (line_after s byte) (drop (i + 1) text)) (eqb byte 40)) (sym t) ∙ at_byte
