-- What a word is: the tests of the code are those of the definitions.
-- Assumes nothing.
use Rattle.std.specs.Prelude.{Option, Some, None}
use Rattle.std.specs.Char.{is_ascii_digit, is_ascii_alphanumeric}
use Rattle.std.specs.Option.{option_copied}
use Rattle.std.specs.List.{slice_get}
use Rattle.std.specs.Cmp.Lexicographic.{pointwise}
use Rattle.std.proofs.lemmas.Bool.{false≢true}
use Rattle.std.proofs.lemmas.Option.{none-some, same_Some}
use Rattle.std.proofs.Common.{nat_eq, Bor}
use mathlib.Core.Path.{◌≡◌, refl, sym, ap, ◌∙◌}
use mathlib.Core.Bool.{Bool, true, false, ◌&&◌, ◌||◌, not}
use mathlib.Core.List.{List, [], ◌∷◌}
use Prim.Native.Nat.{ℕ, zero, suc, ◌+◌, ◌-◌, ◌<◌, ◌≤◌}
use native.Mathlib.Omega.{arith}
use lib.Dec.{eqb, ltb, leb}
use lib.ListN.{length, take, drop, get_or, length-drop}
use borrow.Author.Tests.{ne_eqb, not-false, ltb-false, leb-true, lt-ltb}
use Rattle.smtlib.specs.Bytes.{bytes, same_bytes, is_in}
use Rattle.smtlib.specs.Numerals.{value_of}
use Rattle.smtlib.proofs.Cuts.{and_left, and_right}
use Rattle.table.specs.Folds.{every}
use Rattle.parser.proofs.Lists.{same_is}
use Rattle.parser.proofs.Values.{bits_fit, decimal_fits}
use Rattle.parser.specs.declared.words.Word.TheVariants.{Literal, Width}
use Rattle.parser.proofs.Choices.{chosen_some}
use Rattle.parser.specs.Words.{decimal_width, plain_of, between, digit, among, symbolic, symbol, private, reserved, commands, is_name, binary, width, marked}

-- Bytes

turned : (d u l a : Bool) → d || u || l || a ≡ u || l || d || a
turned true true l a = refl
turned true false true a = refl
turned true false false a = refl
turned false u true a = go u
  where
    go : (v : Bool) → v || true || a ≡ v || true || false || a
    go true = refl
    go false = refl
turned false true false a = refl
turned false false false a = refl

pub symbolic_is : (b : ℕ) {t u : Bool} → t ≡ is_ascii_alphanumeric b → u ≡ among (bytes "~!@$%^&*_-+=<>.?/") b → t || u ≡ symbolic b
symbolic_is b e f = rw (e, f) (turned (digit b) (between 65 90 b) (between 97 122 b) _)

neither : (a b : Bool) → a || b ≡ false → (a ≡ false) × (b ≡ false)
neither false b e = (refl, e)
neither true b e = absurd (false≢true (sym e))

-- Constants: 1 to 32 digits after two bytes

pub not_binary : (w : List ℕ) → pointwise nat_eq (take 2 w) (bytes "#b") ≡ false → binary w ≡ false
not_binary w e = rw (sym (same_is (take 2 w) (bytes "#b")) ∙ e)

rotated : (t a b : Bool) → t && a && b ≡ a && b && t
rotated true true true = refl
rotated true true false = refl
rotated true false b = refl
rotated false true true = refl
rotated false true false = refl
rotated false false b = refl

pub binary_is : (w d : List ℕ) {t : Bool} → pointwise nat_eq (take 2 w) (bytes "#b") ≡ true → d ≡ drop 2 w → length d + 2 ≡ length w → t ≡ every (between 48 49) d
    → t && leb 1 (length d) && leb (length d) 32 ≡ binary w
binary_is w d {t} e f g h =
    let n : length d ≡ length w - 2 = omega arith in
    rw (sym n, sym (same_is (take 2 w) (bytes "#b")) ∙ e, h, f) (rotated (every (between 48 49) (drop 2 w)) _ _)

-- what is said by a binary word
pub record Bits (w : List ℕ) : Type 0 where
  pub long : 2 ≤ length w
  pub short : length w - 2 ≤ 32
  pub bits : every (between 48 49) (drop 2 w) ≡ true

pub binary-says : (w : List ℕ) → binary w ≡ true → Bits w
binary-says w e =
    let n = length w - 2 in
    let h = same_bytes (take 2 w) (bytes "#b") in
    let t = every (between 48 49) (drop 2 w) in
    let f : h && between 1 32 n ≡ true = and_left (h && between 1 32 n) t e in
    let g : between 1 32 n ≡ true = and_right h (between 1 32 n) f in
    let low : 1 ≤ n = leb-true 1 n (and_left (leb 1 n) (leb n 32) g) in
    record { long = omega arith; short = leb-true n 32 (and_right (leb 1 n) (leb n 32) g); bits = and_right (h && between 1 32 n) t e }

-- Widths: one or two digits

-- what is said by a width
pub record Decimal (w : List ℕ) : Type 0 where
  pub digits : every digit w ≡ true
  pub short : length w ≤ 2

pub width-says : (w : List ℕ) → width w ≡ true → Decimal w
width-says w e =
    let n = length w in
    let x = not (eqb (get_or w 0 0) 48) in
    let f = and_left (every digit w && between 1 2 n) x (and_left (every digit w && between 1 2 n && x) (leb (value_of 10 0 w) 32) e) in
    let g = and_right (every digit w) (between 1 2 n) f in
    record { digits = and_left (every digit w) (between 1 2 n) f; short = leb-true n 2 (and_right (leb 1 n) (leb n 2) g) }

pub digits_fit : (w : List ℕ) (e : Bool) {t : Bool} → t ≡ every digit w → e || ltb 2 (length w) || not t ≡ false → value_of 10 0 w < 4294967296
digits_fit w e {t} f g =
    let n = neither (e || ltb 2 (length w)) (not t) g in
    decimal_fits w (sym f ∙ not-false t n.1) (ltb-false 2 (length w) (neither e (ltb 2 (length w)) n.0).1)

-- What the code answers

pub bits_said : (w d : List ℕ) → binary w ≡ true → d ≡ drop 2 w → (1 ≤ 2) × (value_of 2 0 d < 4294967296)
bits_said w d e f = let b = binary-says w e in rw f (omega arith, bits_fit (drop 2 w) b.bits (omega (arith, b.short, length-drop 2 w)))

pub literal_is : (w d : List ℕ) {v : ℕ} → binary w ≡ true → d ≡ drop 2 w → v ≡ value_of 2 0 d → Literal (length d) v ≡ plain_of w
unfolding plain_of
literal_is w d e f g = rw (g, f, e, length-drop 2 w)

pub width_is : (w : List ℕ) {n : ℕ} → binary w ≡ false → Some n ≡ decimal_width w → Width n ≡ plain_of w
unfolding plain_of
width_is w e f = let c = chosen_some (width w) f in rw (e, c.0, c.1)

-- Names

pub no_symbol : (w : List ℕ) (first : Option (Bor ℕ)) → option_copied first ≡ slice_get w 0 → first ≡ None → false ≡ symbol w && not (private w)
unfolding symbol
no_symbol [] first e f = refl
no_symbol (b ∷ bs) first e f = absurd (none-some b (sym (ap option_copied f) ∙ e))

pub symbol_is : (w : List ℕ) (first : Option (Bor ℕ)) {b : Bor ℕ} {t u : Bool} → option_copied first ≡ slice_get w 0 → first ≡ Some b → t ≡ is_ascii_digit b.now → u ≡ every symbolic w
    → not t && u && not (eqb b.now 64) && not (eqb b.now 46) ≡ symbol w && not (private w)
unfolding symbol private
symbol_is [] first {b = b} e f g h = absurd (none-some b.now (sym e ∙ ap option_copied f))
symbol_is (c ∷ bs) first {b = b} e f g h = let same : b.now ≡ c = same_Some b.now c (sym (ap option_copied f) ∙ e) in rw (g, h, same) (apart (not (digit c)) (every symbolic (c ∷ bs)) (eqb c 64) (eqb c 46))
  where
    apart : (d s x y : Bool) → d && s && not x && not y ≡ d && s && not (x || y)
    apart true true true y = refl
    apart true true false y = refl
    apart true false x y = refl
    apart false s x y = refl

pub no_name : (w : List ℕ) → symbol w && not (private w) ≡ false → false ≡ is_name w
no_name w e = rw e

pub name_is : (w : List ℕ) → symbol w && not (private w) ≡ true → {r c : Bool} → r ≡ is_in reserved w → c ≡ is_in commands w → not r && not c ≡ is_name w
name_is w e f g = rw (e, f, g)

pub not-marked : (w : List ℕ) → pointwise nat_eq (take 1 w) (bytes "x") ≡ false → false ≡ marked w
unfolding marked
not-marked [] e = refl
not-marked (b ∷ bs) e = rw (neither_first (eqb b 120) e)
  where
    neither_first : (t : Bool) → t && true ≡ false → t ≡ false
    neither_first true e = e
    neither_first false e = refl

some : (n : ℕ) → not (eqb n 0) ≡ ltb 0 n
some zero = refl
some (suc n) = rw (ne_eqb (suc n) 0 (λ e. omega (arith, e)), lt-ltb 0 (suc n) (omega arith))

pub marked_is : (w d : List ℕ) {s t : Bool} → pointwise nat_eq (take 1 w) (bytes "x") ≡ true → d ≡ drop 1 w → s ≡ eqb (length d) 0 → t ≡ every digit d → not s && t ≡ marked w
unfolding marked
marked_is [] d e f g h = absurd (false≢true e)
marked_is (b ∷ bs) d e f g h = rw (g, h, f, and_left (eqb b 120) true e) (ap (λ (t : Bool). t && every digit bs) (some (length bs)))
