-- Just the well-formed tables are admitted.
-- Assumes nothing.
use mathlib.Core.Path.{◌≡◌, refl, sym, ap, ◌∙◌}
use mathlib.Core.Bool.{Bool, true, false, cond, not, ◌&&◌, ◌||◌}
use mathlib.Core.List.{List}
use Prim.Native.Nat.{ℕ, pred, ◌*◌, ◌%◌, ◌/◌, ◌≤◌, ◌<◌}
use native.Mathlib.Decide.{dec_lt, ℕ_discrete}
use native.Mathlib.Omega.{arith}
use lib.Dec.{eqb, ltb, leb}
use lib.ListN.{length}
use borrow.Author.Tests.{leb-true, le-leb, ltb-false, le-ltb, ne_eqb, eq-eqb, not-false, not-true, eqb-true, eqb-false}
use Rattle.ops.proofs.Booleans.{or_neither}
use Rattle.table.specs.Answers.{Acceptance, accepted}
use Rattle.table.specs.Terms.{words, terms, term_at, sort_at, boolean}
use Rattle.table.specs.Faults.{fields, is_variable, known, sorted, placed_as, typed, valued_as, conflicts, clash, size, refuse_unless, fault_if, fault}
use Rattle.table.specs.Admission.{refused, scan, ended, admission_within}
use Rattle.table.specs.WellFormed.{Sound, WellFormed, AdmissionSound, AdmissionComplete, SlotsHaveOneUse}
use Rattle.table.proofs.Searches.{none_of-any}
use Rattle.table.proofs.Slots.{one_sort}
use Rattle.table.proofs.Scans.{not_both, scan-sound, scan_complete}
use Rattle.table.proofs.TermFaults.{refuse_zero}

-- a table that is not refused by 1 has a term
pub one_term : (n : ℕ) → eqb n 0 || not (eqb (n % words) 0) ≡ false → 0 < n / words
one_term n h =
    let parts = or_neither (eqb n 0) (not (eqb (n % words) 0)) h in
    let some : n ≡ 0 → ⊥ = eqb-false n 0 parts.0 in
    let whole : n % words ≡ 0 = eqb-true (n % words) 0 (not-false (eqb (n % words) 0) parts.1) in
    omega arith

-- One term

fault-sound : (t : List ℕ) (k : ℕ) → fault t k ≡ 0 → Sound t k
unfolding fault fault_if
fault-sound t k h =
    let x = term_at t k in
    let after-8 : ℕ = refuse_unless 9 (leb (size t k) 16) 0 in
    let after-7 : ℕ = refuse_unless 8 (not (clash t k)) after-8 in
    let after-6 : ℕ = refuse_unless 7 (valued_as (fields x) x) after-7 in
    let after-5 : ℕ = refuse_unless 6 (typed t x) after-6 in
    let after_4 : ℕ = refuse_unless 5 (placed_as (fields x) k x) after-5 in
    let after-3 : ℕ = refuse_unless 4 (sorted x.sort) after_4 in
    let z3 = refuse_zero 2 (known x) after-3 h in
    let z4 = refuse_zero 3 (sorted x.sort) after_4 z3.1 in
    let z5 = refuse_zero 4 (placed_as (fields x) k x) after-5 z4.1 in
    let z6 = refuse_zero 5 (typed t x) after-6 z5.1 in
    let z7 = refuse_zero 6 (valued_as (fields x) x) after-7 z6.1 in
    let z8 = refuse_zero 7 (not (clash t k)) after-8 z7.1 in
    record {
      is_known = z3.0;
      is_sorted = z4.0;
      is_placed = z5.0;
      is_typed = z6.0;
      is_valued = z7.0;
      no-clash = not-true (clash t k) z8.0;
      short = leb-true (size t k) 16 (refuse_zero 8 (leb (size t k) 16) 0 z8.1).0;
    }

sound-fault : (t : List ℕ) (k : ℕ) → Sound t k → fault t k ≡ 0
unfolding fault fault_if
sound-fault t k s =
    rw (s.is_known, s.is_sorted, s.is_placed, s.is_typed, s.is_valued, s.no-clash, le-leb (size t k) 16 s.short)

-- The whole

pub cond_admitted : (b : Bool) (number : ℕ) (rest : Acceptance) → cond b (refused number 0) rest ≡ accepted → (b ≡ false) × (rest ≡ accepted)
cond_admitted true number rest h = absurd (not_both number 0 h)
cond_admitted false number rest h = (refl, h)

ended_admitted : (b : Bool) (last : ℕ) → cond b accepted (refused 10 last) ≡ accepted → b ≡ true
ended_admitted true last h = refl
ended_admitted false last h = absurd (not_both 10 last h)

pub admission-sound : AdmissionSound
unfolding admission_within
admission-sound limit t h =
    let scanned = scan (fault t) (terms t) 0 (ended t (pred (terms t))) in
    let first = cond_admitted (eqb (length t) 0 || not (eqb (length t % words) 0)) 1 (cond (ltb limit (terms t)) (refused 2 0) scanned) h in
    let second = cond_admitted (ltb limit (terms t)) 2 scanned first.1 in
    let all = scan-sound (fault t) (terms t) (ended t (pred (terms t))) second.1 in
    let exact : length t % words ≡ 0 = eqb-true (length t % words) 0 (not-false (eqb (length t % words) 0) (or_neither (eqb (length t) 0) (not (eqb (length t % words) 0)) first.0).1) in
    record {
      some = one_term (length t) first.0;
      whole = omega arith;
      few = ltb-false limit (terms t) second.0;
      sound = λ k b. fault-sound t k (all.1 k b);
      rule = ended_admitted (boolean (sort_at t (pred (terms t)))) (pred (terms t)) all.0;
    }

pub admission_complete : AdmissionComplete
unfolding admission_within
admission_complete limit t w =
    let some : 0 < terms t = w.some in
    let whole : length t ≡ terms t * words = w.whole in
    let exact : length t % words ≡ 0 = omega arith in
    let none : length t ≡ 0 → ⊥ = λ e. omega arith in
    rw (ne_eqb (length t) 0 none, eq-eqb (length t % words) 0 exact, le-ltb limit (terms t) w.few)
    (scan_complete (fault t) (terms t) (ended t (pred (terms t))) (λ k b. sound-fault t k (w.sound k b))
    ∙ rw w.rule)

-- One use of each slot

module _ (limit : ℕ) (t : List ℕ) (w : WellFormed limit t) where
  -- a variable and an earlier one
  earlier_use : (j k : ℕ) → j < k → k < terms t → is_variable (term_at t j) ≡ true → is_variable (term_at t k) ≡ true → conflicts (term_at t j) (term_at t k) ≡ false
  unfolding clash
  earlier_use j k b c vj vk =
      rw vj at (none_of-any k (λ i. is_variable (term_at t i) && conflicts (term_at t i) (term_at t k)) (rw vk at (w.sound k c).no-clash) j b)

  same_use : (j k : ℕ) → j < k → k < terms t → is_variable (term_at t j) ≡ true → is_variable (term_at t k) ≡ true → (term_at t j).p ≡ (term_at t k).p → (sort_at t j ≡ sort_at t k) × ((term_at t j).q ≡ (term_at t k).q)
  same_use j k b c vj vk p =
      let s = one_sort (term_at t j) (term_at t k) p (earlier_use j k b c vj vk) in
      ((λ i. record { m = s.m i; n = s.n i }), s.mark)

pub slots_have_one_use : SlotsHaveOneUse
slots_have_one_use limit t w j k b c vj vk p = go (dec_lt j k) (ℕ_discrete j k)
  where
    go : Dec (j < k) → Dec (j ≡ k) → (sort_at t j ≡ sort_at t k) × ((term_at t j).q ≡ (term_at t k).q)
    go (yes l) e = same_use limit t w j k l c vj vk p
    go (no l) (yes e) = (ap (sort_at t) e, ap (λ (i : ℕ). (term_at t i).q) e)
    go (no l) (no e) =
        let other = same_use limit t w k j (omega arith) b vk vj (sym p) in
        (sym other.0, sym other.1)

-- a wider limit takes what a narrower one takes
pub wider : (limit limit' : ℕ) (t : List ℕ) → limit ≤ limit' → WellFormed limit t → WellFormed limit' t
wider limit limit' t b w =
    let few : terms t ≤ limit = w.few in
    record { some = w.some; whole = w.whole; few = omega arith; sound = w.sound; rule = w.rule }
