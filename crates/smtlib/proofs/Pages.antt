-- Bytes written one after the other.
-- Assumes nothing.
use mathlib.Core.Path.{◌≡◌, refl, sym, ap, ◌∙◌}
use mathlib.Core.List.{List, [], ◌∷◌, ◌++◌}
use Prim.Native.Nat.{ℕ, suc, ◌+◌, ◌≤◌, ◌<◌}
use native.Mathlib.Numerals.{add-one}
use native.Mathlib.Omega.{arith}
use lib.ListN.{length, take, drop, get_or, set, length-set}
use lib.Seq.{sets, sets-eq, take-suc, take_all}
use borrow.Author.Tests.{lt-ltb}
use Rattle.smtlib.specs.Bytes.{each}
use Rattle.smtlib.specs.Writing.{Page, page, limit, next, put, wrote, Wrote}

pub wrote-append : (p : Page) (x y : List ℕ) → wrote p (x ++ y) ≡ wrote (wrote p x) y
unfolding wrote
wrote-append p [] y = refl
wrote-append p (b ∷ x) y = wrote-append (put p b) x y

-- nothing; one text and then another
pub nothing : {p : Page} → Wrote p [] p
unfolding wrote
nothing = record { is = refl }

pub then : {p q o : Page} {x y : List ℕ} → Wrote p x q → Wrote q y o → Wrote p (x ++ y) o
then {p} {x = x} {y = y} e f = record { is = f.is ∙ ap (λ (z : Page). wrote z y) e.is ∙ sym (wrote-append p x y) }

-- the same bytes
pub said : {p q : Page} {x y : List ℕ} → Wrote p x q → x ≡ y → Wrote p y q
said {p} e f = record { is = e.is ∙ ap (wrote p) f }

length-wrote : (p : Page) (x : List ℕ) → length (wrote p x).room ≡ length p.room
unfolding wrote put
length-wrote p [] = refl
length-wrote p (b ∷ x) = length-wrote (put p b) x ∙ length-set p.room p.at b

pub same_length : {p q : Page} {x : List ℕ} → Wrote p x q → length q.room ≡ length p.room
same_length {p} {x = x} e = ap (λ (z : Page). length z.room) e.is ∙ length-wrote p x

-- A word: its first i bytes are written

pub record Writing (w : List ℕ) (p q : Page) (i : ℕ) : Type 0 where
  pub within : i ≤ length w
  pub done : Wrote p (take i w) q

pub none_written : (w : List ℕ) (p : Page) → Writing w p p 0
none_written w p = record { within = omega arith; done = nothing }

pub one_written : (w : List ℕ) (p q o : Page) (i : ℕ) → i < length w → Writing w p q i → o ≡ put q (get_or w i 0) → Writing w p o (i + 1)
unfolding wrote
one_written w p q o i h was e =
    let one : Wrote q (get_or w i 0 ∷ []) o = record { is = e } in
    record { within = omega arith; done = said (then was.done one) (sym (take-suc w i 0 h) ∙ ap (λ (k : ℕ). take k w) (sym (add-one i))) }

pub all-written : (w : List ℕ) (p q : Page) (i : ℕ) → length w ≤ i → Writing w p q i → Wrote p w q
all-written w p q i h was = said was.done (take_all i w h)

-- Lines: those of the numbers below i are written

pub record Lined (line : ℕ → List ℕ) (n : ℕ) (p q : Page) (i : ℕ) : Type 0 where
  pub within : i ≤ n
  pub done : Wrote p (each line i) q

module _ (line : ℕ → List ℕ) (n : ℕ) (p : Page) where
  pub none_lined : Lined line n p p 0
  unfolding each
  none_lined = record { within = omega arith; done = nothing }

  pub one_lined : {q o : Page} {i : ℕ} → i < n → Lined line n p q i → Wrote q (line i) o → Lined line n p o (i + 1)
  unfolding each
  one_lined {i = i} h was e = record { within = omega arith; done = said (then was.done e) (ap (each line) (sym (add-one i))) }

  pub all_lined : {q : Page} {i : ℕ} → n ≤ i → Lined line n p q i → Wrote p (each line n) q
  all_lined {i = i} h was = let e : i ≡ n = let b : i ≤ n = was.within in omega arith in said was.done (ap (each line) e)

-- The whole: where the room has it, its front holds it. The place is the count of bytes in any case

placed : (x : List ℕ) (p : Page) → p.at + length x ≤ limit → wrote p x ≡ page (sets p.room p.at x) (p.at + length x)
unfolding wrote put
placed [] p h = λ i. page p.room (let e : p.at ≡ p.at + 0 = omega arith in e i)
placed (b ∷ x) p h =
    let low : p.at < limit = omega arith in
    let up : next p.at ≡ suc p.at = rw (lt-ltb p.at limit low) (add-one p.at) in
    let sum : suc p.at + length x ≡ p.at + suc (length x) = omega arith in
    ap (λ (k : ℕ). wrote (page (set p.room p.at b) k) x) up
    ∙ placed x (page (set p.room p.at b) (suc p.at)) (omega arith)
    ∙ ap (page (sets (set p.room p.at b) (suc p.at) x)) sum

module _ (room x : List ℕ) (q : Page) (h : length x ≤ limit) (e : Wrote (page room 0) x q) where
  whole : q ≡ page (sets room 0 x) (0 + length x)
  whole = e.is ∙ placed x (page room 0) (omega arith)

  pub counted : q.at ≡ length x
  counted = let z : 0 + length x ≡ length x = omega arith in ap (λ (p : Page). p.at) whole ∙ z

  pub filled : length x ≤ length room → q.room ≡ x ++ drop (length x) room
  filled fits =
      let z : 0 + length x ≡ length x = omega arith in
      ap (λ (p : Page). p.room) whole ∙ sets-eq x room 0 (omega arith) ∙ ap (λ (k : ℕ). x ++ drop k room) z
