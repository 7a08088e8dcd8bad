-- What is on the way down: the rule, and with a term what it blames; nothing else.
-- Assumes nothing.
use mathlib.Core.Path.{◌≡◌, refl, sym, ap, ap₂, subst, ◌∙◌}
use mathlib.Core.Bool.{Bool, true, false, cond, not, ◌&&◌, ◌||◌}
use mathlib.Core.List.{List, [], ◌∷◌}
use mathlib.Core.Logic.{◌⊎◌, inl, inr, ⊎_elim}
use Prim.Native.Nat.{ℕ, zero, suc, pred, ◌≤◌, ◌<◌}
use native.Mathlib.Decide.{ℕ_discrete}
use native.Mathlib.Omega.{arith}
use lib.Dec.{eqb, ltb}
use lib.ListN.{length, replicate, length-replicate}
use borrow.Author.Tests.{eqb-true, ltb-true, lt-ltb, not-true, eq-eqb}
use Rattle.ops.specs.Meaning.{holds}
use Rattle.ops.proofs.Booleans.{never, and_parts, or_parts}
use Rattle.table.specs.Terms.{term_at}
use Rattle.judge.specs.Code.Labelled.{truth_in}
use Rattle.explain.specs.declared.answers.Source.{Source}
use Rattle.explain.specs.Sources.{term_of, support, names, blames}
use Rattle.explain.specs.Ways.{marked, on_way, blamed, looked_at, way_down, begun, way_of}
use Rattle.explain.specs.Laws.{OnlyUnfree, Whole}
use Rattle.explain.proofs.Rows.{zeros, keep-marked, hit_marked, old_marked, length_marked}
use Rattle.explain.proofs.Looks.{length_looked}
use Rattle.explain.proofs.Downward.{length-begun}

-- Some sources: those that are not free are marked, the others stay, and no other is new

module _ (truths : List ℕ) where
  abbrev unfree : ℕ → Bool
  unfree i = not (truth_in truths i)

  keep-blamed : (l : List Source) (marks : List ℕ) (i : ℕ) → on_way marks i ≡ true → on_way (blamed truths l marks) i ≡ true
  unfolding blamed
  keep-blamed [] marks i h = h
  keep-blamed (s ∷ l) marks i h = keep-blamed l (marked (unfree (term_of s)) (term_of s) marks) i (keep-marked (unfree (term_of s)) (term_of s) marks i h)

  hit_blamed : (l : List Source) (marks : List ℕ) (i : ℕ) → (names l i && unfree i) ≡ true → i < length marks → on_way (blamed truths l marks) i ≡ true
  unfolding blamed names
  hit_blamed [] marks i h b = never h
  hit_blamed (s ∷ l) marks i h b =
      let k = term_of s in
      let parts = and_parts (eqb k i || names l i) (unfree i) h in
      let same = length_marked (unfree k) k marks in
      ⊎_elim
      (λ e.
      let is : k ≡ i = eqb-true k i e in
      keep-blamed l (marked (unfree k) k marks) i
      (subst (λ (n : ℕ). on_way (marked (unfree k) k marks) n ≡ true) is (hit_marked (unfree k) k marks (ap unfree is ∙ parts.1) (omega arith))))
      (λ e. hit_blamed l (marked (unfree k) k marks) i (ap₂ ◌&&◌ e parts.1) (omega arith))
      (or_parts (eqb k i) (names l i) parts.0)

  old_blamed : (l : List Source) (marks : List ℕ) (i : ℕ) → on_way (blamed truths l marks) i ≡ true → ((names l i && unfree i) ≡ true) ⊎ (on_way marks i ≡ true)
  unfolding blamed names
  old_blamed [] marks i h = inr h
  old_blamed (s ∷ l) marks i h =
      let k = term_of s in
      ⊎_elim
      (λ e. let parts = and_parts (names l i) (unfree i) e in inl (ap₂ (λ a b. (eqb k i || a) && b) parts.0 parts.1 ∙ opened (eqb k i)))
      (λ was.
      ⊎_elim (λ new. inl (ap₂ (λ a b. (a || names l i) && b) (eq-eqb k i (sym new.1)) (ap unfree new.1 ∙ new.0))) inr
      (old_marked (unfree k) k marks i was))
      (old_blamed l (marked (unfree k) k marks) i h)
    where
      opened : (a : Bool) → ((a || true) && true) ≡ true
      opened true = refl
      opened false = refl

-- One term

module _ (w values truths : List ℕ) (k : ℕ) (marks : List ℕ) where
  abbrev sources : List Source
  sources = support w values (term_at w k)

  keep_looked : (i : ℕ) → on_way marks i ≡ true → on_way (looked_at w values truths k marks) i ≡ true
  unfolding looked_at
  keep_looked i h = go (on_way marks k)
    where
      go : (b : Bool) → on_way (cond b (blamed truths (support w values (term_at w k)) marks) marks) i ≡ true
      go true = keep-blamed truths (support w values (term_at w k)) marks i h
      go false = h

  hit_looked : (i : ℕ) → on_way marks k ≡ true → blames w values truths k i ≡ true → i < length marks → on_way (looked_at w values truths k marks) i ≡ true
  unfolding looked_at
  hit_looked i o h b = subst (λ (z : Bool). on_way (cond z (blamed truths sources marks) marks) i ≡ true) (sym o) (hit_blamed truths sources marks i h b)

  old_looked : (i : ℕ) → on_way (looked_at w values truths k marks) i ≡ true → ((on_way marks k ≡ true) × (blames w values truths k i ≡ true)) ⊎ (on_way marks i ≡ true)
  unfolding looked_at
  old_looked i = go (on_way marks k) refl
    where
      go : (b : Bool) → on_way marks k ≡ b → on_way (cond b (blamed truths (support w values (term_at w k)) marks) marks) i ≡ true
          → ((on_way marks k ≡ true) × (blames w values truths k i ≡ true)) ⊎ (on_way marks i ≡ true)
      go true e h = ⊎_elim (λ new. inl (e, new)) inr (old_blamed truths (support w values (term_at w k)) marks i h)
      go false e h = inr h

-- Down the table: P holds of the rule, and with a term of what it blames

module _ (w values truths : List ℕ) (P : ℕ → Type 0) (blames-on : (k i : ℕ) → P k → blames w values truths k i ≡ true → P i) where
  abbrev All : List ℕ → Type 0
  All marks = (i : ℕ) → on_way marks i ≡ true → P i

  all_looked : (k : ℕ) (marks : List ℕ) → All marks → All (looked_at w values truths k marks)
  all_looked k marks all i h = ⊎_elim (λ new. blames-on k i (all k new.0) new.1) (all i) (old_looked w values truths k marks i h)

  all_down : (k : ℕ) (marks : List ℕ) → All marks → All (way_down w values truths k marks)
  unfolding way_down
  all_down zero marks all = all
  all_down (suc k) marks all = all_down k (looked_at w values truths k marks) (all_looked k marks all)

  module _ (n : ℕ) (rule : 0 < n → truth_in truths (pred n) ≡ false → P (pred n)) where
    abbrev o : Bool
    o = ltb 0 n && not (truth_in truths (pred n))

    old_begun : (i : ℕ) → on_way (begun truths n) i ≡ true → (0 < n) × (truth_in truths (pred n) ≡ false) × (i ≡ pred n)
    old_begun i h =
        ⊎_elim
        (λ new.
        let parts = and_parts (ltb 0 n) (not (truth_in truths (pred n))) new.0 in
        (ltb-true 0 n parts.0, not-true (truth_in truths (pred n)) parts.1, new.1))
        (λ was. never (sym (ap holds (zeros 512 i)) ∙ was))
        (old_marked o (pred n) (replicate 512 0) i h)

    all-begun : All (begun truths n)
    all-begun i h = let was = old_begun i h in subst P (sym was.2) (rule was.0 was.1)

    pub all_way : (k : ℕ) → on_way (way_of w values truths n) k ≡ true → P k
    all_way = all_down n (begun truths n) all-begun

    -- The way is whole, where what a term of P blames is below it, and P is of the first 512 terms
    module _ (small : (k : ℕ) → P k → k < 512) (below : (k i : ℕ) → P k → blames w values truths k i ≡ true → i < k) where
      keep_down : (m : ℕ) (marks : List ℕ) (i : ℕ) → on_way marks i ≡ true → on_way (way_down w values truths m marks) i ≡ true
      unfolding way_down
      keep_down zero marks i h = h
      keep_down (suc m) marks i h = keep_down m (looked_at w values truths m marks) i (keep_looked w values truths m marks i h)

      -- what a term from m on blames is marked with it
      abbrev Closed : ℕ → List ℕ → Type 0
      Closed m marks = (k i : ℕ) → m ≤ k → on_way marks k ≡ true → blames w values truths k i ≡ true → on_way marks i ≡ true

      module _ (m : ℕ) (marks : List ℕ) (all : All marks) (row : length marks ≡ 512) (closed : Closed (suc m) marks) where
        closed-next : Closed m (looked_at w values truths m marks)
        closed-next k i c h l =
            ⊎_elim (λ new. let d = below m k (all m new.0) new.1 in absurd (omega arith)) (λ was. go was (ℕ_discrete k m)) (old_looked w values truths m marks k h)
          where
            go : on_way marks k ≡ true → Dec (k ≡ m) → on_way (looked_at w values truths m marks) i ≡ true
            go was (yes e) =
                let at_m : on_way marks m ≡ true = subst (λ (n : ℕ). on_way marks n ≡ true) e was in
                let l' : blames w values truths m i ≡ true = subst (λ (n : ℕ). blames w values truths n i ≡ true) e l in
                let s = small i (blames-on m i (all m at_m) l') in
                hit_looked w values truths m marks i at_m l' (omega arith)
            go was (no e) = keep_looked w values truths m marks i (closed k i (omega arith) was l)

      closed_down : (m : ℕ) (marks : List ℕ) → All marks → length marks ≡ 512 → Closed m marks → Closed zero (way_down w values truths m marks)
      unfolding way_down
      closed_down zero marks all row closed = closed
      closed_down (suc m) marks all row closed =
          closed_down m (looked_at w values truths m marks) (all_looked m marks all) (length_looked w values truths m marks ∙ row) (closed-next m marks all row closed)

      closed-begun : Closed n (begun truths n)
      closed-begun k i c h l = let was = old_begun k h in let b = was.0 in let e = was.2 in absurd (omega arith)

      pub whole : 0 < n → Whole w values truths n
      whole b =
          record {
            rule = λ u.
                let last = small (pred n) (rule b u) in
                keep_down n (begun truths n) (pred n)
                (hit_marked o (pred n) (replicate 512 0) (ap₂ ◌&&◌ (lt-ltb 0 n b) (ap not u)) (let l = length-replicate {A = ℕ} 512 0 in omega arith));
            blamed = λ k i on l. closed_down n (begun truths n) all-begun (length-begun truths n) closed-begun k i (omega arith) on l;
          }

pub only_unfree : OnlyUnfree
only_unfree w values truths n k h =
    all_way w values truths (λ i. truth_in truths i ≡ false)
    (λ k i e l. not-true (truth_in truths i) (and_parts (names (support w values (term_at w k)) i) (not (truth_in truths i)) l).1)
    n (λ b u. u) k h
