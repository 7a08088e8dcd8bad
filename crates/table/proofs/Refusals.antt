-- By which numbers a scan and an admission refuse.
-- Assumes nothing.
use mathlib.Core.Path.{◌≡◌, refl}
use mathlib.Core.Bool.{Bool, true, false, cond, not, ◌||◌}
use mathlib.Core.List.{List}
use Prim.Native.Nat.{ℕ, zero, suc, pred, ◌%◌, ◌≤◌}
use Prim.{tt}
use native.Mathlib.Omega.{arith}
use lib.Dec.{eqb, ltb, leb}
use lib.ListN.{length}
use borrow.Author.Tests.{leb-true, le-leb}
use Rattle.ops.proofs.Booleans.{and_parts}
use Rattle.table.specs.Answers.{Acceptance, accepted}
use Rattle.table.specs.Terms.{words, terms, term_at, sort_at, boolean}
use Rattle.table.specs.Faults.{fields, known, sorted, placed_as, typed, valued_as, clash, size, refuse_unless, fault_if, fault}
use Rattle.table.specs.Admission.{refused, refused_by, scan, admission_within}
use Rattle.table.specs.Refusals.{between, RefusedBy, AdmissionNumbers}

-- a range within another
pub wider : (low low' high high' number : ℕ) → low' ≤ low → high ≤ high' → between low high number ≡ true → between low' high' number ≡ true
wider low low' high high' number l h e =
    let parts = and_parts (leb low number) (leb number high) e in
    let above : low ≤ number = leb-true low number parts.0 in
    let below : number ≤ high = leb-true number high parts.1 in
    rw (le-leb low' number (omega arith), le-leb number high' (omega arith))

-- A fault is 0 or one of these numbers
pub data Fault (numbers : ℕ → Bool) : ℕ → Type 0 where
  none : Fault numbers 0
  some : {number : ℕ} → numbers number ≡ true → Fault numbers number

pub refuse_by : {numbers : ℕ → Bool} (number : ℕ) → numbers number ≡ true → (ok : Bool) {rest : ℕ} → Fault numbers rest → Fault numbers (refuse_unless number ok rest)
refuse_by number e true later = later
refuse_by number e false later = some e

-- of a term 3 to 9
fault_by : (t : List ℕ) (i : ℕ) → Fault (between 1 10) (fault t i)
unfolding fault fault_if
fault_by t i =
    let x = term_at t i in
    refuse_by 3 refl (known x)
    (refuse_by 4 refl (sorted x.sort)
    (refuse_by 5 refl (placed_as (fields x) i x)
    (refuse_by 6 refl (typed t x)
    (refuse_by 7 refl (valued_as (fields x) x)
    (refuse_by 8 refl (not (clash t i))
    (refuse_by 9 refl (leb (size t i) 16) none))))))

-- What holds of Accepted and of every refusal by one of these numbers
module _ (numbers : ℕ → Bool) (Q : Acceptance → Type 0) (by : (number place : ℕ) → numbers number ≡ true → Q (refused number place)) where
  by_fault : (f at : ℕ) {rest : Acceptance} → Fault numbers f → Q rest → Q (refused_by f at rest)
  by_fault zero at h q = q
  by_fault (suc f) at (some e) q = by (suc f) at e

  -- holds of a scan, where it holds of the rest
  pub scan_by : (faults : ℕ → ℕ) → ((k : ℕ) → Fault numbers (faults k)) → (left at : ℕ) {rest : Acceptance} → Q rest → Q (scan faults left at rest)
  unfolding scan
  scan_by faults h zero at q = q
  scan_by faults h (suc left) at q = by_fault (faults at) at (h at) (scan_by faults h left (suc at) q)

pub either_of : (Q : Acceptance → Type 0) (b : Bool) {a c : Acceptance} → Q a → Q c → Q (cond b a c)
either_of Q true q r = q
either_of Q false q r = r

-- and of an admission
pub admission_by : (Q : Acceptance → Type 0) → Q accepted → ((number place : ℕ) → between 1 10 number ≡ true → Q (refused number place))
    → (limit : ℕ) (t : List ℕ) → Q (admission_within limit t)
unfolding admission_within
admission_by Q admitted by limit t =
    let last = pred (terms t) in
    either_of Q (eqb (length t) 0 || not (eqb (length t % words) 0)) (by 1 0 refl)
    (either_of Q (ltb limit (terms t)) (by 2 0 refl)
    (scan_by (between 1 10) Q by (fault t) (fault_by t) (terms t) 0 (either_of Q (boolean (sort_at t last)) admitted (by 10 last refl))))

pub admission-numbers : AdmissionNumbers
admission-numbers limit t = admission_by (RefusedBy (between 1 10)) tt (λ number place e. e) limit t
