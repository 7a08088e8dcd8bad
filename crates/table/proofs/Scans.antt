-- A scan by any faults, turn by turn; what it says where it refuses nothing.
-- Assumes nothing.
use Rattle.std.specs.Prelude.{Ok, Err}
use mathlib.Core.Path.{◌≡◌, refl, sym, ap, ap₂, ◌∙◌}
use Prim.Native.Nat.{ℕ, zero, suc, ◌+◌, ◌-◌, ◌≤◌, ◌<◌}
use native.Mathlib.Decide.{ℕ_discrete}
use native.Mathlib.Numerals.{add-one}
use native.Mathlib.Omega.{arith}
use Rattle.table.specs.declared.Refusal.{Refusal}
use Rattle.table.specs.Answers.{Acceptance, accepted}
use Rattle.table.specs.Admission.{and_then, refused, refused_by, scan}

pub not_both : (number place : ℕ) → refused number place ≡ accepted → ⊥
not_both number place e = let z : ◌≡◌ {A = ℕ} 0 1 = cc in omega arith

module _ (faults : ℕ → ℕ) where
  -- One turn of the scan of n
  module _ (n i : ℕ) (rest : Acceptance) (inside : i < n) where
    left : n - i ≡ suc (n - (i + 1))
    left = omega arith

    scan_on : faults i ≡ 0 → scan faults (n - i) i rest ≡ scan faults (n - (i + 1)) (i + 1) rest
    unfolding scan
    scan_on z = rw (left, z, add-one)

    scan_stop : (f : ℕ) → faults i ≡ f → (f ≡ 0 → ⊥) → scan faults (n - i) i rest ≡ refused f i
    unfolding scan
    scan_stop zero e h = absurd (h refl)
    scan_stop (suc f) e h = rw (left, e)

  -- The scan has come to i: what is left of it is the whole
  pub record Scanned (n : ℕ) (rest : Acceptance) (i : ℕ) : Type 0 where
    pub within : i ≤ n
    pub same : scan faults n 0 rest ≡ scan faults (n - i) i rest

  module _ (n : ℕ) (rest : Acceptance) where
    pub begun : Scanned n rest 0
    begun =
        let e : n ≡ n - 0 = omega arith in
        record { within = omega arith; same = ap (λ (left : ℕ). scan faults left 0 rest) e }

    module _ (i : ℕ) (h : Scanned n rest i) where
      pub through : n ≤ i → rest ≡ scan faults n 0 rest
      unfolding scan
      through end =
          let e : n - i ≡ 0 = omega arith in
          sym (h.same ∙ rw e)

      module _ (inside : i < n) (f : ℕ) (here : f ≡ faults i) where
        pub on : f ≡ 0 → Scanned n rest (i + 1)
        on z = record { within = omega arith; same = h.same ∙ scan_on n i rest inside (sym here ∙ z) }

        pub stop : (f ≡ 0 → ⊥) → refused f i ≡ scan faults n 0 rest
        stop z = sym (h.same ∙ scan_stop n i rest inside f (sym here) z)

  -- The rest counts only where the scan by itself refuses nothing
  scan_rest : (n at : ℕ) (rest : Acceptance) → scan faults n at rest ≡ and_then Err (scan faults n at accepted) rest
  unfolding scan
  scan_rest zero at rest = refl
  scan_rest (suc n) at rest = go (faults at) (scan_rest n (suc at) rest)
    where
      go : (f : ℕ) → scan faults n (suc at) rest ≡ and_then Err (scan faults n (suc at) accepted) rest
          → refused_by f at (scan faults n (suc at) rest) ≡ and_then Err (refused_by f at (scan faults n (suc at) accepted)) rest
      go zero e = e
      go (suc f) e = refl

  module _ (n : ℕ) (rest answer : Acceptance) (is : answer ≡ scan faults n 0 accepted) where
    whole : and_then Err answer rest ≡ scan faults n 0 rest
    whole = ap (λ (a : Acceptance). and_then Err a rest) is ∙ sym (scan_rest n 0 rest)

    pub scan-refuses : {r : Refusal} → answer ≡ Err r → Err r ≡ scan faults n 0 rest
    scan-refuses e = ap (λ (a : Acceptance). and_then Err a rest) (sym e) ∙ whole

    pub scan-passes : {u : Unit {0}} → answer ≡ Ok u → rest ≡ scan faults n 0 rest
    scan-passes e = ap (λ (a : Acceptance). and_then Err a rest) (sym e) ∙ whole

  -- What is not refused

  refused_by-none : (f at : ℕ) (rest : Acceptance) → refused_by f at rest ≡ accepted → (f ≡ 0) × (rest ≡ accepted)
  refused_by-none zero at rest h = (refl, h)
  refused_by-none (suc f) at rest h = absurd (not_both (suc f) at h)

  -- every one that was passed has no fault, and the end was reached
  scan-sound_from : (left at : ℕ) (rest : Acceptance) → scan faults left at rest ≡ accepted → (rest ≡ accepted) × ((k : ℕ) → at ≤ k → k < at + left → faults k ≡ 0)
  unfolding scan
  scan-sound_from zero at rest h = (h, λ k b c. absurd (omega arith))
  scan-sound_from (suc left) at rest h = go (scan-sound_from left (suc at) rest (refused_by-none (faults at) at (scan faults left (suc at) rest) h).1)
    where
      go : (rest ≡ accepted) × ((k : ℕ) → suc at ≤ k → k < suc at + left → faults k ≡ 0) → (rest ≡ accepted) × ((k : ℕ) → at ≤ k → k < at + suc left → faults k ≡ 0)
      go later = (later.0, λ k b c. here k b c (ℕ_discrete at k))
        where
          here : (k : ℕ) → at ≤ k → k < at + suc left → Dec (at ≡ k) → faults k ≡ 0
          here k b c (yes e) = ap faults (sym e) ∙ (refused_by-none (faults at) at (scan faults left (suc at) rest) h).0
          here k b c (no e) = later.1 k (omega arith) (omega arith)

  pub scan-sound : (n : ℕ) (rest : Acceptance) → scan faults n 0 rest ≡ accepted → (rest ≡ accepted) × ((k : ℕ) → k < n → faults k ≡ 0)
  scan-sound n rest h =
      let all = scan-sound_from n 0 rest h in
      (all.0, λ k b. all.1 k (omega arith) (omega arith))

  scan_complete_from : (left at : ℕ) (rest : Acceptance) → ((k : ℕ) → at ≤ k → k < at + left → faults k ≡ 0) → scan faults left at rest ≡ rest
  unfolding scan
  scan_complete_from zero at rest h = refl
  scan_complete_from (suc left) at rest h =
      rw (h at (omega arith) (omega arith)) (scan_complete_from left (suc at) rest (λ k b c. h k (omega arith) (omega arith)))

  pub scan_complete : (n : ℕ) (rest : Acceptance) → ((k : ℕ) → k < n → faults k ≡ 0) → scan faults n 0 rest ≡ rest
  scan_complete n rest h = scan_complete_from n 0 rest (λ k b c. h k (omega arith))

-- scans by the same faults, and then the same, are the same
scan-same_from : (faults faults' : ℕ → ℕ) {rest rest' : Acceptance} → rest ≡ rest' → (left at : ℕ) → ((k : ℕ) → k < at + left → faults k ≡ faults' k)
    → scan faults left at rest ≡ scan faults' left at rest'
unfolding scan
scan-same_from faults faults' e zero at h = e
scan-same_from faults faults' e (suc left) at h =
    ap₂ (λ f later. refused_by f at later) (h at (omega arith)) (scan-same_from faults faults' e left (suc at) (λ k b. h k (omega arith)))

pub scan-same : (faults faults' : ℕ → ℕ) {rest rest' : Acceptance} → rest ≡ rest' → (n : ℕ) → ((k : ℕ) → k < n → faults k ≡ faults' k)
    → scan faults n 0 rest ≡ scan faults' n 0 rest'
scan-same faults faults' e n h = scan-same_from faults faults' e n 0 (λ k b. h k (omega arith))
