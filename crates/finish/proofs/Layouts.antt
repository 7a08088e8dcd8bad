-- Where the terms of a finished table stand.
-- Assumes nothing.
use mathlib.Core.Path.{◌≡◌, refl, sym, ap, subst, ◌∙◌}
use mathlib.Core.List.{List, [], ◌∷◌, ◌++◌}
use Prim.Native.Nat.{ℕ, zero, suc, pred, ◌+◌, ◌-◌, ◌*◌, ◌<◌}
use native.Mathlib.Nat.{add-zero, not-suc-le-zero, le_of_suc-le-suc}
use native.Mathlib.Omega.{arith}
use lib.ListN.{length, get_or, length-append, get_or-append}
use lib.Seq.{get_or-append-add}
use Rattle.table.specs.declared.words.Term.{Term}
use Rattle.table.specs.Terms.{words, terms, term_at}
use Rattle.table.specs.WellFormed.{WellFormed}
use Rattle.sheets.specs.Marks.{own_marks}
use Rattle.groups.specs.Added.{and_t, constant_t, words_of, flat}
use Rattle.groups.specs.Plans.{groups, next, plans, plan_at}
use Rattle.finish.specs.Finished.{condition_number, added, finished}
use Rattle.groups.proofs.GroupSizes.{groups-more}

-- the table f has the terms xs from number b on
abbrev pub Has : List ℕ → ℕ → List Term → Type 0
Has f b xs = (i : ℕ) → i < length xs → term_at f (b + i) ≡ get_or xs i (constant_t 0 0)

pub has_left : (f : List ℕ) (b : ℕ) (xs ys : List Term) → Has f b (xs ++ ys) → Has f b xs
has_left f b xs ys h i l = h i (rw length-append (omega arith)) ∙ get_or-append xs ys (constant_t 0 0) i l

pub has_right : (f : List ℕ) (b : ℕ) (xs ys : List Term) → Has f b (xs ++ ys) → Has f (b + length xs) ys
has_right f b xs ys h i l =
    let e : b + length xs + i ≡ b + (length xs + i) = omega arith in
    ap (term_at f) e ∙ h (length xs + i) (rw length-append (omega arith)) ∙ get_or-append-add xs ys i (constant_t 0 0)

-- the first of them
pub has_first : (f : List ℕ) (b : ℕ) (xs : List Term) → Has f b xs → 0 < length xs → term_at f b ≡ get_or xs 0 (constant_t 0 0)
has_first f b xs h l = ap (term_at f) (sym (add-zero b)) ∙ h 0 l

-- f is the table w and after it what finishing adds
pub record Layout (w f : List ℕ) : Type 0 where
  pub old : (k : ℕ) → k < terms w → term_at f k ≡ term_at w k
  pub has : Has f (terms w) (added w)
  pub count : terms f ≡ terms w + length (added w)
  pub whole : length f ≡ terms f * words

module _ (w f : List ℕ) (l : Layout w f) where
  pub true_at : term_at f (terms w) ≡ constant_t 0 1
  true_at = has_first f (terms w) (added w) l.has (omega arith)

  pub false_at : term_at f (terms w + 1) ≡ constant_t 0 0
  false_at = l.has 1 (omega arith)

  -- the groups, and the last term after them
  rest_has : Has f (terms w + 2) (groups (plans w own_marks (terms w)) ++ (and_t (pred (terms w)) (condition_number w (pred (terms w))) ∷ []))
  rest_has = has_right f (terms w) (constant_t 0 1 ∷ constant_t 0 0 ∷ []) (groups (plans w own_marks (terms w)) ++ (and_t (pred (terms w)) (condition_number w (pred (terms w))) ∷ [])) l.has

  groups_has : (d k : ℕ) → k + d ≡ terms w → Has f (terms w + 2) (groups (plans w own_marks k))
  groups_has zero k e = subst (λ (j : ℕ). Has f (terms w + 2) (groups (plans w own_marks j))) (omega arith) (has_left f (terms w + 2) (groups (plans w own_marks (terms w))) (and_t (pred (terms w)) (condition_number w (pred (terms w))) ∷ []) rest_has)
  groups_has (suc d) k e =
      has_left f (terms w + 2) (groups (plans w own_marks k)) (plan_at w own_marks k).group
      (subst (Has f (terms w + 2)) (groups-more w own_marks k) (groups_has d (suc k) (omega arith)))

  -- the group of term k
  pub group_has : (k : ℕ) → k < terms w → Has f (next w (plans w own_marks k)) (plan_at w own_marks k).group
  group_has k b =
      let d : ℕ = terms w - suc k in
      let e : suc k + d ≡ terms w = omega arith in
      has_right f (terms w + 2) (groups (plans w own_marks k)) (plan_at w own_marks k).group
      (subst (Has f (terms w + 2)) (groups-more w own_marks k) (groups_has d (suc k) e))

  pub count_is : terms f ≡ next w (plans w own_marks (terms w)) + 1
  count_is = l.count ∙ rw length-append (omega arith)

  pub last_at : term_at f (next w (plans w own_marks (terms w))) ≡ and_t (pred (terms w)) (condition_number w (pred (terms w)))
  last_at =
      has_first f (next w (plans w own_marks (terms w))) (and_t (pred (terms w)) (condition_number w (pred (terms w))) ∷ [])
      (has_right f (terms w + 2) (groups (plans w own_marks (terms w))) (and_t (pred (terms w)) (condition_number w (pred (terms w))) ∷ []) rest_has)
      (omega arith)

-- Terms as numbers

pub length-flat : (xs : List Term) → length (flat xs) ≡ length xs * words
unfolding flat
length-flat [] = refl
length-flat (x ∷ xs) = let e = length-flat xs in omega arith

-- number j of term i
flat_at : (xs : List Term) (i j : ℕ) → i < length xs → j < words → get_or (flat xs) (i * words + j) 0 ≡ get_or (words_of (get_or xs i (constant_t 0 0))) j 0
unfolding flat
flat_at [] i j b c = absurd (not-suc-le-zero b)
flat_at (x ∷ xs) zero j b c =
    let e : zero * words + j ≡ j = omega arith in
    ap (λ (k : ℕ). get_or (words_of x ++ flat xs) k 0) e ∙ get_or-append (words_of x) (flat xs) 0 j c
flat_at (x ∷ xs) (suc i) j b c =
    let e : suc i * words + j ≡ 6 + (i * words + j) = omega arith in
    ap (λ (k : ℕ). get_or (words_of x ++ flat xs) k 0) e ∙ get_or-append-add (words_of x) (flat xs) (i * words + j) 0 ∙ flat_at xs i j (le_of_suc-le-suc b) c

module _ (w : List ℕ) (whole : length w ≡ terms w * words) (xs : List Term) where
  old_word : (k j : ℕ) → k < terms w → j < words → get_or (w ++ flat xs) (k * words + j) 0 ≡ get_or w (k * words + j) 0
  old_word k j b c = get_or-append w (flat xs) 0 (k * words + j) (omega arith)

  new_word : (i j : ℕ) → i < length xs → j < words → get_or (w ++ flat xs) ((terms w + i) * words + j) 0 ≡ get_or (words_of (get_or xs i (constant_t 0 0))) j 0
  new_word i j b c =
      let e : (terms w + i) * words + j ≡ length w + (i * words + j) = omega arith in
      ap (λ (k : ℕ). get_or (w ++ flat xs) k 0) e ∙ get_or-append-add w (flat xs) (i * words + j) 0 ∙ flat_at xs i j b c

  old_term : (k : ℕ) → k < terms w → term_at (w ++ flat xs) k ≡ term_at w k
  old_term k b =
      let at : (j : ℕ) → j < words → get_or (w ++ flat xs) (k * words + j) 0 ≡ get_or w (k * words + j) 0 = λ j c. old_word k j b c in
      λ i. record {
        op = at 0 (omega arith) i;
        sort = record { m = at 1 (omega arith) i; n = at 2 (omega arith) i };
        p = at 3 (omega arith) i;
        q = at 4 (omega arith) i;
        r = at 5 (omega arith) i;
      }

  new_terms : Has (w ++ flat xs) (terms w) xs
  new_terms k b =
      let at : (j : ℕ) → j < words → get_or (w ++ flat xs) ((terms w + k) * words + j) 0 ≡ get_or (words_of (get_or xs k (constant_t 0 0))) j 0 = λ j c. new_word k j b c in
      λ i. record {
        op = at 0 (omega arith) i;
        sort = record { m = at 1 (omega arith) i; n = at 2 (omega arith) i };
        p = at 3 (omega arith) i;
        q = at 4 (omega arith) i;
        r = at 5 (omega arith) i;
      }

  all_words : length (w ++ flat xs) ≡ (terms w + length xs) * words
  all_words = rw (length-append, length-flat) (omega arith)

pub finished_layout : (w : List ℕ) → WellFormed 512 w → Layout w (finished w)
unfolding finished
finished_layout w f =
    let long : length (finished w) ≡ (terms w + length (added w)) * words = all_words w f.whole (added w) in
    let count : terms (finished w) ≡ terms w + length (added w) = omega arith in
    record {
      old = old_term w f.whole (added w);
      has = new_terms w f.whole (added w);
      count = count;
      whole = long ∙ ap (λ (n : ℕ). n * words) (sym count);
    }
