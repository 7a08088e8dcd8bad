-- The first word that is refused ends the shortest prefix that is refused.
-- Assumes nothing.
use Rattle.parser.specs.Expressions.{fault_in}
use mathlib.Core.Path.{◌≡◌, refl, sym, ap, ◌∙◌}
use mathlib.Core.Bool.{Bool, true, false, cond}
use mathlib.Core.List.{List, [], ◌∷◌, ◌++◌}
use Prim.Native.Nat.{ℕ, zero, suc, ◌*◌, ◌-◌, ◌<◌, ◌≤◌}
use native.Mathlib.Omega.{arith}
use lib.Dec.{eqb, ltb, leb}
use lib.ListN.{length, take}
use borrow.Author.Tests.{eq-eqb, ne_eqb, eqb-true, eqb-false, leb-true}
use Rattle.smtlib.proofs.Cuts.{and_right}
use Rattle.table.specs.Answers.{Acceptance}
use Rattle.table.specs.Terms.{words}
use Rattle.table.specs.Admission.{and_then}
use Rattle.table.proofs.Refusals.{admission_by}
use Rattle.parser.specs.Parsing.{Parsing}
use Rattle.std.specs.Prelude.{Ok, Err}
use Rattle.parser.specs.declared.states.State.{State}
use Rattle.parser.specs.Rules.{rule_of}
use Rattle.parser.specs.Parsing.{not_parsed, built, tabled, parsing}
use Rattle.parser.proofs.Choices.{by_test}
use Rattle.prefixes.specs.Spelling.{Spelt, spelling}
use Rattle.prefixes.specs.Prefixes.{Spot, start_spot, after, refusal, refuses_from, Refused, first_from, first_refusal}
use Rattle.prefixes.specs.Laws.{RefusedFrom, RefusedAt, PrefixRefused}
use Rattle.prefixes.proofs.Commanding.{first-refusal}

-- a word more in front
module _ (s : Spot) (w : Spelt) where
  refuses_further : (us : List Spelt) (v : Spelt) → refuses_from s (w ∷ (us ++ (v ∷ []))) ≡ refuses_from (after s w) (us ++ (v ∷ []))
  unfolding refuses_from
  refuses_further [] v = refl
  refuses_further (u ∷ us) v = refl

  passes_further : (us : List Spelt) → refusal s w ≡ 0 → refuses_from (after s w) us ≡ 0 → refuses_from s (w ∷ us) ≡ 0
  unfolding refuses_from
  passes_further [] e f = e
  passes_further (u ∷ us) e f = f

  passes-back : (us : List Spelt) → refuses_from s (w ∷ us) ≡ 0 → refuses_from (after s w) us ≡ 0
  unfolding refuses_from
  passes-back [] e = refl
  passes-back (u ∷ us) e = e

-- from the first word to the shortest prefix
further : {s : Spot} {w : Spelt} {ws : List Spelt} {n p : ℕ} → refusal s w ≡ 0 → RefusedFrom (after s w) ws n p → RefusedFrom s (w ∷ ws) n p
unfolding refuses_from
further {s} {w} {ws} e r =
    record {
      before = w ∷ r.before;
      word = r.word;
      rest = r.rest;
      splits = ap (λ (us : List Spelt). w ∷ us) r.splits;
      refused = refuses_further s w r.before r.word ∙ r.refused;
      place = r.place;
      earliest = early;
    }
  where
    early : (k : ℕ) → k ≤ suc (length r.before) → refuses_from s (take k (w ∷ r.before)) ≡ 0
    early zero h = refl
    early (suc k) h = passes_further s w (take k r.before) e (r.earliest k (omega arith))

shortest : (ws : List Spelt) (s : Spot) → ((first_from s ws).number ≡ 0 → ⊥) → RefusedFrom s ws (first_from s ws).number (first_from s ws).place
unfolding first_from refuses_from
shortest [] s n = absurd (n refl)
shortest (w ∷ ws) s n =
    let ih = shortest ws (after s w) in
    by_test (λ (f : Refused). (f.number ≡ 0 → ⊥) → RefusedFrom s (w ∷ ws) f.number f.place) (eqb (refusal s w) 0)
    (λ e m. further (eqb-true _ _ e) (ih m))
    (λ e m. record { before = []; word = w; rest = ws; splits = refl; refused = refl; place = refl; earliest = λ k h. none k (omega arith) })
    n
  where
    none : (k : ℕ) → k ≡ 0 → refuses_from s (take k []) ≡ 0
    none zero h = refl
    none (suc k) h = absurd (omega arith)

-- and back
found : (n : ℕ) (before : List Spelt) (word : Spelt) (rest : List Spelt) (s : Spot) → refuses_from s (before ++ (word ∷ [])) ≡ suc n
    → ((k : ℕ) → k ≤ length before → refuses_from s (take k before) ≡ 0)
    → first_from s (before ++ (word ∷ rest)) ≡ record { number = suc n; place = word.from }
unfolding first_from refuses_from
found n [] word rest s r early = rw (r, ne_eqb (suc n) 0 (λ z. omega arith))
found n (w ∷ bs) word rest s r early =
    let e : refusal s w ≡ 0 = early 1 (omega arith) in
    rw (eq-eqb _ _ e) (found n bs word rest (after s w) (sym (refuses_further s w bs word) ∙ r)
    (λ k h. passes-back s w (take k bs) (early (suc k) (omega arith))))

-- What parse answers

number_of : Parsing → ℕ
number_of (Ok n) = 0
number_of (Err r) = r.number

place_of : Parsing → ℕ
place_of (Ok n) = 0
place_of (Err r) = r.place

-- the table's refusals have lower numbers
low : (t : List ℕ) (count room : ℕ) → number_of (tabled t count room) < 31
unfolding number_of
low t count room =
    let rest = cond (ltb room (count * words)) (not_parsed 21 count) (Ok (count * words)) in
    let last : number_of rest < 31 = by_test (λ (a : Parsing). number_of a < 31) (ltb room (count * words)) (λ e. omega arith) (λ e. omega arith) in
    by_test (λ (a : Parsing). number_of a < 31) (ltb 512 count) (λ e. omega arith)
    (λ e. admission_by (λ (a : Acceptance). number_of (and_then Err a rest) < 31) last
    (λ number place b. omega (arith, leb-true number 10 (and_right (leb 1 number) (leb number 10) b))) 512 t)

pub prefix_refused : PrefixRefused
unfolding number_of place_of
prefix_refused text room n p small l h = (to, from)
  where
    s : State
    s = (rule_of text).progress.state

    tells : (fault_in s ≡ 0 → ⊥) → RefusedAt (spelling text) (fault_in s) s.at
    tells m =
        let t = first-refusal text small in
        rw (sym t.number, sym (t.place m)) (shortest (spelling text) start_spot (λ z. m (sym t.number ∙ z)))

    go : (b : Bool) → eqb (fault_in s) 0 ≡ b → cond b (tabled (built text) s.count room) (not_parsed (fault_in s) s.at) ≡ not_parsed n p
        → RefusedAt (spelling text) n p
    go true f e = absurd (omega (arith, low (built text) s.count room, ap number_of e))
    go false f e =
        let i : n ≡ (fault_in s) = sym (ap number_of e) in
        let j : p ≡ s.at = sym (ap place_of e) in
        rw (i, j) (tells (eqb-false _ _ f))

    to : parsing text room ≡ not_parsed n p → RefusedAt (spelling text) n p
    to e = go (eqb (fault_in s) 0) refl e

    from : RefusedAt (spelling text) n p → parsing text room ≡ not_parsed n p
    from r =
        let some : n ≡ suc (n - 1) = omega arith in
        let f : first_refusal (spelling text) ≡ record { number = suc (n - 1); place = r.word.from } =
        ap first_refusal r.splits ∙ found (n - 1) r.before r.word r.rest start_spot (r.refused ∙ some) r.earliest in
        let t = first-refusal text small in
        let i : (fault_in s) ≡ n = sym t.number ∙ ap (λ (x : Refused). x.number) f ∙ sym some in
        let m : fault_in s ≡ 0 → ⊥ = λ z. omega arith in
        let j : s.at ≡ p = sym (t.place m) ∙ ap (λ (x : Refused). x.place) f ∙ r.place in
        ap (λ (b : Bool). cond b (tabled (built text) s.count room) (not_parsed (fault_in s) s.at)) (ne_eqb _ _ m) ∙ rw (i, j)
