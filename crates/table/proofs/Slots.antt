-- The search for a clash by one variable of each slot finds what the definition finds by all earlier terms.
-- Assumes nothing.
use mathlib.Core.Path.{◌≡◌, refl, sym, ap, subst, ◌∙◌}
use mathlib.Core.Bool.{Bool, true, false, not, ◌&&◌, true≢false}
use mathlib.Core.List.{List}
use Prim.Native.Nat.{ℕ, ◌+◌, ◌-◌, ◌*◌, ◌≤◌, ◌<◌}
use native.Mathlib.Nat.{not-suc-le-zero}
use native.Mathlib.Omega.{arith}
use lib.Dec.{eqb, leb}
use lib.ListN.{length, get_or, set, replicate, length-set}
use lib.Seq.{get_or-set_same, get_or-set_other}
use borrow.Author.Count.{below_more}
use borrow.Author.Tests.{eqb-true, leb-true, le-leb, eq-eqb, not-false}
use Rattle.ops.proofs.Booleans.{and_parts}
use Rattle.table.specs.declared.words.Term.{Term}
use Rattle.table.specs.Terms.{words, HasTerm, term_at, same_sort}
use Rattle.table.specs.Faults.{is_variable, conflicts, clash}
use Rattle.table.specs.Code.Clashes.{claims, slot_clash, first_clash}
use Rattle.table.specs.Folds.{first_from}
use Rattle.table.proofs.Pigeonhole.{pigeonhole}
use Rattle.table.proofs.Searches.{any_none, any_found, first_on, first-here, first_past}

abbrev pub slot_of : List ℕ → ℕ → ℕ
slot_of t i = (term_at t i).p

-- Two variables

-- of one slot and in no conflict: of one sort and mark
pub record OneSort (a x : Term) : Type 0 where
  pub m : a.sort.m ≡ x.sort.m
  pub n : a.sort.n ≡ x.sort.n
  pub mark : a.q ≡ x.q

pub one_sort : (a x : Term) → a.p ≡ x.p → conflicts a x ≡ false → OneSort a x
one_sort a x p d =
    let same = and_parts (same_sort a.sort x.sort) (eqb a.q x.q) (not-false _ (rw (eq-eqb a.p x.p p) at d)) in
    let sorts = and_parts (eqb a.sort.m x.sort.m) (eqb a.sort.n x.sort.n) same.0 in
    record {
      m = eqb-true a.sort.m x.sort.m sorts.0;
      n = eqb-true a.sort.n x.sort.n sorts.1;
      mark = eqb-true a.q x.q same.1;
    }

-- nothing tells them apart
conflicts_alike : (a x : Term) → a.p ≡ x.p → conflicts a x ≡ false → (y : Term) → conflicts x y ≡ conflicts a y
conflicts_alike a x p d y =
    let s = one_sort a x p d in
    rw (p, s.m, s.n, s.mark)

same-slot : (a x : Term) → conflicts a x ≡ true → a.p ≡ x.p
same-slot a x d = eqb-true a.p x.p (and_parts (eqb a.p x.p) (not (same_sort a.sort x.sort && eqb a.q x.q)) d).0

-- What the search keeps: of the earlier variables of slots up to 255 one for each slot, by their numbers in the first met places of l

abbrev pub kept : List ℕ → List ℕ → ℕ → Term
kept t l k = term_at t (get_or l k 0)

-- one of variable k's slot is kept, and conflicts with just what k does
pub record Held (t l : List ℕ) (met k : ℕ) : Type 0 where
  pub place : ℕ
  pub there : place < met
  pub slot : (kept t l place).p ≡ slot_of t k
  pub alike : (x : Term) → conflicts (kept t l place) x ≡ conflicts (term_at t k) x

-- what is kept are earlier variables, no two of one slot; of each earlier variable one is held
pub record Firsts (t : List ℕ) (i : ℕ) (l : List ℕ) (met : ℕ) : Type 0 where
  pub size : length l ≡ 256
  pub few : met ≤ 256
  pub earlier : (k : ℕ) → k < met → (get_or l k 0 < i) × (claims (kept t l k) ≡ true)
  pub apart : (k : ℕ) → k < met → (j : ℕ) → j < k → (kept t l j).p ≡ (kept t l k).p → ⊥
  pub complete : (k : ℕ) → k < i → claims (term_at t k) ≡ true → Held t l met k

none_yet : (t : List ℕ) → Firsts t 0 (replicate 256 0) 0
none_yet t =
    record {
      size = refl;
      few = omega arith;
      earlier = λ k b. absurd (not-suc-le-zero b);
      apart = λ k b. absurd (not-suc-le-zero b);
      complete = λ k b. absurd (not-suc-le-zero b);
    }

claims-slot : (x : Term) → claims x ≡ true → x.p < 256
claims-slot x e = let b : x.p ≤ 255 = leb-true x.p 255 (and_parts (is_variable x) (leb x.p 255) e).1 in omega arith

claims_variable : (x : Term) → claims x ≡ true → is_variable x ≡ true
claims_variable x e = (and_parts (is_variable x) (leb x.p 255) e).0

module _ (t : List ℕ) (i : ℕ) (l : List ℕ) (met : ℕ) (h : Firsts t i l met) where
  -- term i is held already, or is no variable of a slot up to 255
  passed : (claims (term_at t i) ≡ true → Held t l met i) → Firsts t (i + 1) l met
  passed held =
      record {
        size = h.size;
        few = h.few;
        earlier = λ k b. let e = h.earlier k b in (let c : get_or l k 0 < i = e.0 in omega arith, e.1);
        apart = h.apart;
        complete = below_more (λ k. claims (term_at t k) ≡ true → Held t l met k) i h.complete held;
      }

  -- no two that are kept have one slot
  one_place : (j k : ℕ) → j < met → k < met → (kept t l j).p ≡ (kept t l k).p → j ≡ k
  one_place j k b c e =
      let below : j < k → ⊥ = λ d. h.apart k c j d e in
      let above : k < j → ⊥ = λ d. h.apart j b k d (sym e) in
      omega arith

  module _ (claim : claims (term_at t i) ≡ true) where
    -- a kept variable conflicts with term i: there is a clash
    clash-found : (k : ℕ) → k < met → conflicts (kept t l k) (term_at t i) ≡ true → slot_clash t i ≡ true
    unfolding clash
    clash-found k b d =
        let e = h.earlier k b in
        rw (claim, claims_variable (term_at t i) claim) (any_found i (λ j. is_variable (term_at t j) && conflicts (term_at t j) (term_at t i)) (get_or l k 0) e.0 (rw (claims_variable (kept t l k) e.1) d))

    -- none of its slot does: no earlier variable does
    clash-none : ((k : ℕ) → k < met → (kept t l k).p ≡ slot_of t i → conflicts (kept t l k) (term_at t i) ≡ false) → slot_clash t i ≡ false
    unfolding clash
    clash-none none = rw (claim, claims_variable (term_at t i) claim) (any_none i _ (λ k b. go k b (is_variable (term_at t k) && conflicts (term_at t k) (term_at t i)) refl))
      where
        go : (k : ℕ) → k < i → (d : Bool) → is_variable (term_at t k) && conflicts (term_at t k) (term_at t i) ≡ d → d ≡ false
        go k b false e = refl
        go k b true e =
            let parts = and_parts (is_variable (term_at t k)) (conflicts (term_at t k) (term_at t i)) e in
            let slot : slot_of t k ≡ slot_of t i = same-slot (term_at t k) (term_at t i) parts.1 in
            let small : slot_of t k ≤ 255 = omega (arith, claims-slot (term_at t i) claim) in
            let held = h.complete k b (rw (parts.0, le-leb (slot_of t k) 255 small)) in
            sym (held.alike (term_at t i) ∙ parts.1) ∙ none held.place held.there (held.slot ∙ slot)

    -- the kept variable of its slot does not conflict with it
    module _ (k : ℕ) (b : k < met) (slot : (kept t l k).p ≡ slot_of t i) (same : conflicts (kept t l k) (term_at t i) ≡ false) where
      seen_clean : slot_clash t i ≡ false
      seen_clean = clash-none (λ j c e. ap (λ (q : ℕ). conflicts (kept t l q) (term_at t i)) (one_place j k c b (e ∙ sym slot)) ∙ same)

      seen : Firsts t (i + 1) l met
      seen = passed (λ w. record { place = k; there = b; slot = slot; alike = λ x. sym (conflicts_alike (kept t l k) (term_at t i) slot same x) })

    -- none that is kept has its slot
    module _ (new : (k : ℕ) → k < met → (kept t l k).p ≡ slot_of t i → ⊥) where
      new_clean : slot_clash t i ≡ false
      new_clean = clash-none (λ k b e. absurd (new k b e))

      place_left : met < 256
      place_left =
          pigeonhole 256 met (slot_of t i) (λ k. (kept t l k).p) (claims-slot (term_at t i) claim)
          (λ k b. claims-slot (kept t l k) (h.earlier k b).1) new h.apart

      -- term i is kept
      noted : Firsts t (i + 1) (set l met i) (met + 1)
      noted =
          record {
            size = length-set l met i ∙ h.size;
            few = omega (arith, place_left);
            earlier = below_more (λ k. Earlier (get_or (set l met i) k 0)) met (λ k b. subst Earlier (sym (there k b)) (old k b)) (subst Earlier (sym here) (omega arith, claim));
            apart = below_more Apart met (λ k b j c e. h.apart k b j c (slot-there j (omega arith) e ∙ ap (slot_of t) (there k b))) (λ j c e. new j c (slot-there j c e ∙ ap (slot_of t) here));
            complete = below_more (λ k. claims (term_at t k) ≡ true → Held t (set l met i) (met + 1) k) i (λ k b w. more k (h.complete k b w)) (λ w. record { place = met; there = omega arith; slot = ap (slot_of t) here; alike = λ x. ap (λ (j : ℕ). conflicts (term_at t j) x) here });
          }
        where
          here : get_or (set l met i) met 0 ≡ i
          here = get_or-set_same l met i 0 (omega (arith, h.size, place_left))

          there : (k : ℕ) → k < met → get_or (set l met i) k 0 ≡ get_or l k 0
          there k b = get_or-set_other l met k i 0 (λ e. omega arith)

          Earlier : ℕ → Type 0
          Earlier j = (j < i + 1) × (claims (term_at t j) ≡ true)

          old : (k : ℕ) → k < met → Earlier (get_or l k 0)
          old k b = let e = h.earlier k b in (let c : get_or l k 0 < i = e.0 in omega arith, e.1)

          Apart : ℕ → Type 0
          Apart k = (j : ℕ) → j < k → (kept t (set l met i) j).p ≡ (kept t (set l met i) k).p → ⊥

          slot-there : {s : ℕ} (j : ℕ) → j < met → (kept t (set l met i) j).p ≡ s → (kept t l j).p ≡ s
          slot-there j b e = sym (ap (slot_of t) (there j b)) ∙ e

          more : (k : ℕ) → Held t l met k → Held t (set l met i) (met + 1) k
          more k held =
              let b : held.place < met = held.there in
              let e = there held.place b in
              record { place = held.place; there = omega arith; slot = ap (slot_of t) e ∙ held.slot; alike = λ x. ap (λ (j : ℕ). conflicts (term_at t j) x) e ∙ held.alike x }

-- The search among n terms: what is known before term i
pub record Searched (t : List ℕ) (n : ℕ) (l : List ℕ) (met i : ℕ) : Type 0 where
  pub within : i ≤ n
  pub same : first_clash t n ≡ first_from (slot_clash t) (n - i) i
  pub firsts : Firsts t i l met

-- and, at its variable x, that none of the first k that are kept has x's slot
pub record Looked (t : List ℕ) (n : ℕ) (l : List ℕ) (met i : ℕ) (x : Term) (k : ℕ) : Type 0 where
  pub searched : Searched t n l met i
  pub inside : i < n
  pub here : x ≡ term_at t i
  pub claim : claims x ≡ true
  pub others : (j : ℕ) → j < k → (kept t l j).p ≡ x.p → ⊥

pub started : (t : List ℕ) (n : ℕ) → Searched t n (replicate 256 0) 0 0
started t n =
    let e : n ≡ n - 0 = omega arith in
    record { within = omega arith; same = ap (λ (left : ℕ). first_from (slot_clash t) left 0) e; firsts = none_yet t }

module _ {t : List ℕ} {n : ℕ} {l : List ℕ} {met i : ℕ} (h : Searched t n l met i) where
  pub all_clean : n ≤ i → n ≡ first_clash t n
  all_clean end =
      let e : i ≡ n = let b : i ≤ n = h.within in omega arith in
      sym (h.same ∙ first_past (slot_clash t) n i end ∙ e)

  module _ (inside : i < n) where
    clean_more : {l' : List ℕ} {met' : ℕ} → slot_clash t i ≡ false → Firsts t (i + 1) l' met' → Searched t n l' met' (i + 1)
    clean_more e firsts = record { within = omega arith; same = h.same ∙ first_on (slot_clash t) n i inside e; firsts = firsts }

    module _ {x : Term} (here : x ≡ term_at t i) where
      pub one_passed : claims x ≡ false → Searched t n l met (i + 1)
      one_passed none =
          let c : claims (term_at t i) ≡ false = ap claims (sym here) ∙ none in
          clean_more (rw c) (passed t i l met h.firsts (λ w. absurd (true≢false (sym w ∙ c))))

      pub looking : claims x ≡ true → Looked t n l met i x 0
      looking claim = record { searched = h; inside = inside; here = here; claim = claim; others = λ j b. absurd (not-suc-le-zero b) }

module _ {t : List ℕ} {n : ℕ} {l : List ℕ} {met i : ℕ} {x : Term} {k : ℕ} (h : Looked t n l met i x k) where
  firsts : Firsts t i l met
  firsts = h.searched.firsts

  claim : claims (term_at t i) ≡ true
  claim = ap claims (sym h.here) ∙ h.claim

  slot : x.p ≡ slot_of t i
  slot = ap (λ (y : Term). y.p) h.here

  pub place_inside : k < met → k < 256
  place_inside b = omega (arith, firsts.few)

  pub term-inside : k < met → n * words ≤ length t → HasTerm t (get_or l k 0)
  term-inside b whole = omega (arith, (firsts.earlier k b).0, h.inside)

  module _ {a : Term} (is : a ≡ kept t l k) where
    slot_is : a.p ≡ x.p → (kept t l k).p ≡ slot_of t i
    slot_is e = ap (λ (y : Term). y.p) (sym is) ∙ e ∙ slot

    conflict_is : {d : Bool} → conflicts a x ≡ d → conflicts (kept t l k) (term_at t i) ≡ d
    conflict_is e = sym (ap (λ (y : Term). conflicts y x) is ∙ ap (conflicts (kept t l k)) h.here) ∙ e

    pub other_slot : (a.p ≡ x.p → ⊥) → Looked t n l met i x (k + 1)
    other_slot other =
        record {
          searched = h.searched;
          inside = h.inside;
          here = h.here;
          claim = h.claim;
          others = below_more (λ j. (kept t l j).p ≡ x.p → ⊥) k h.others (λ e. other (ap (λ (y : Term). y.p) is ∙ e));
        }

    pub one_seen : k < met → a.p ≡ x.p → conflicts a x ≡ false → Searched t n l met (i + 1)
    one_seen b e d =
        clean_more h.searched h.inside (seen_clean t i l met firsts claim k b (slot_is e) (conflict_is d)) (seen t i l met firsts claim k b (slot_is e) (conflict_is d))

    pub one_found : k < met → conflicts a x ≡ true → i ≡ first_clash t n
    one_found b d = sym (h.searched.same ∙ first-here (slot_clash t) n i h.inside (clash-found t i l met firsts claim k b (conflict_is d)))

  module _ (end : met ≤ k) where
    new : (j : ℕ) → j < met → (kept t l j).p ≡ slot_of t i → ⊥
    new j b e = h.others j (omega arith) (e ∙ sym slot)

    pub place_free : met < 256
    place_free = place_left t i l met firsts claim new

    pub one_noted : Searched t n (set l met i) (met + 1) (i + 1)
    one_noted = clean_more h.searched h.inside (new_clean t i l met firsts claim new) (noted t i l met firsts claim new)
