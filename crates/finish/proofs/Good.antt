-- Each kind of added term, and each group of them, passes what a table's terms are asked.
-- Assumes nothing.
use mathlib.Core.Path.{◌≡◌, refl, sym, ap, subst, ◌∙◌}
use mathlib.Core.Bool.{Bool, true, false, not, ◌&&◌}
use mathlib.Core.List.{List, [], ◌∷◌, ◌++◌}
use Prim.Native.Nat.{ℕ, zero, suc, pred, ◌+◌, ◌-◌, ◌≤◌, ◌<◌}
use native.Mathlib.Decide.{dec_lt}
use native.Mathlib.Nat.{not-suc-le-zero, le_of_suc-le-suc, add-zero, zero-add}
use native.Mathlib.Omega.{arith}
use lib.Dec.{eqb, ltb}
use lib.ListN.{length, get_or, length-append, get_or-append}
use lib.Seq.{get_or-append-add}
use borrow.Author.Tests.{ltb-true, eqb-true, not-true, lt-ltb, eq-eqb}
use Rattle.ops.specs.Fits.{fits}
use Rattle.ops.proofs.Booleans.{and_parts}
use Rattle.table.specs.declared.words.Sort.{Sort}
use Rattle.table.specs.declared.words.Term.{Term}
use Rattle.table.specs.Terms.{word_at, term_at, boolean}
use Rattle.table.specs.Faults.{fields, is_variable, is_store, is_choice, known, sorted, placed_as, typed, valued_as, clash, size}
use Rattle.table.specs.WellFormed.{Sound}
use Rattle.table.proofs.OperandSorts.{four}
use Rattle.table.proofs.Sizes.{size_none}
use Rattle.groups.specs.Added.{not_t, and_t, or_t, equal_t, choice_t, less_t, constant_t, read_t}
use Rattle.groups.specs.Groups.{strict_group, and_group, or_group, implies_group, absorbing_group, bounds_group, shift_group, choice_group, store_group, array_choice_group}
use Rattle.groups.specs.Plans.{last_of}
use Rattle.finish.proofs.Layouts.{Has}

-- term p of f stands before k and has the sort (m, n)
pub record Below (f : List ℕ) (k p m n : ℕ) : Type 0 where
  pub before : p < k
  pub m_is : word_at f p 1 ≡ m
  pub n_is : word_at f p 2 ≡ n

pub later : {f : List ℕ} {k p m n : ℕ} (k' : ℕ) → k ≤ k' → Below f k p m n → Below f k' p m n
later k' h b = let l : _ < _ = b.before in record { before = omega arith; m_is = b.m_is; n_is = b.n_is }

up : {f : List ℕ} {k p m n : ℕ} (i : ℕ) → Below f k p m n → Below f (k + i) p m n
up {f} {k} i b = later (k + i) (omega arith) b

-- a known op, no variable's and no array's
abbrev plain : Term → Bool
plain x = known x && not (is_variable x) && not (is_store x) && not (is_choice x)

-- what is asked of a term at k, which is no variable and no array
pub record Good (f : List ℕ) (k : ℕ) (x : Term) : Type 0 where
  good_op : plain x ≡ true
  good_sort : sorted x.sort ≡ true
  good_place : placed_as (fields x) k x ≡ true
  good_type : typed f x ≡ true
  good_value : valued_as (fields x) x ≡ true

-- so a table that has it at k is sound there
pub good_sound : (f : List ℕ) (k : ℕ) (x : Term) → term_at f k ≡ x → Good f k x → Sound f k
unfolding clash
good_sound f k x e g =
    let parts = four (known x) (not (is_variable x)) (not (is_store x)) (not (is_choice x)) g.good_op in
    let no_variable : is_variable (term_at f k) ≡ false = ap is_variable e ∙ not-true (is_variable x) parts.1 in
    let no_store : is_store (term_at f k) ≡ false = ap is_store e ∙ not-true (is_store x) parts.2 in
    let no-choice : is_choice (term_at f k) ≡ false = ap is_choice e ∙ not-true (is_choice x) parts.3 in
    let none : size f k ≡ 0 = size_none 16 f k no_store no-choice in
    record {
      is_known = ap known e ∙ parts.0;
      is_sorted = ap (λ (y : Term). sorted y.sort) e ∙ g.good_sort;
      is_placed = ap (λ (y : Term). placed_as (fields y) k y) e ∙ g.good_place;
      is_typed = ap (typed f) e ∙ g.good_type;
      is_valued = ap (λ (y : Term). valued_as (fields y) y) e ∙ g.good_value;
      no-clash = rw no_variable;
      short = omega arith;
    }

-- Each kind of term

module _ {f : List ℕ} {k : ℕ} where
  pub constant_good : (n value : ℕ) → sorted (constant_t n 0).sort ≡ true → fits n value ≡ true → Good f k (constant_t n value)
  unfolding typed
  constant_good n value sort fit = record { good_op = refl; good_sort = sort; good_place = refl; good_type = refl; good_value = fit }

  not_good : {p : ℕ} → Below f k p 0 0 → Good f k (not_t p)
  unfolding typed
  not_good {p} P = record { good_op = refl; good_sort = refl; good_place = rw (lt-ltb p k P.before); good_type = rw (P.m_is, P.n_is); good_value = refl }

  two_before : {p q m n m' n' : ℕ} → Below f k p m n → Below f k q m' n' → ltb p k && ltb q k && true ≡ true
  two_before {p} {q} P Q = rw (lt-ltb p k P.before, lt-ltb q k Q.before)

  module _ {p q : ℕ} where
    pub and_good : Below f k p 0 0 → Below f k q 0 0 → Good f k (and_t p q)
    unfolding typed
    and_good P Q = record { good_op = refl; good_sort = refl; good_place = two_before P Q; good_type = rw (P.m_is, P.n_is, Q.m_is, Q.n_is); good_value = refl }

    or_good : Below f k p 0 0 → Below f k q 0 0 → Good f k (or_t p q)
    unfolding typed
    or_good P Q = record { good_op = refl; good_sort = refl; good_place = two_before P Q; good_type = rw (P.m_is, P.n_is, Q.m_is, Q.n_is); good_value = refl }

    equal_good : {n : ℕ} → Below f k p 0 n → Below f k q 0 n → Good f k (equal_t p q)
    unfolding typed
    equal_good {n} P Q =
        record { good_op = refl; good_sort = refl; good_place = two_before P Q; good_type = rw (P.m_is, P.n_is, Q.m_is, Q.n_is) (eq-eqb n n refl); good_value = refl }

    less_good : {n : ℕ} → 0 < n → Below f k p 0 n → Below f k q 0 n → Good f k (less_t p q)
    unfolding typed
    less_good {n} some P Q =
        record { good_op = refl; good_sort = refl; good_place = two_before P Q; good_type = rw (P.m_is, P.n_is, Q.m_is, Q.n_is, lt-ltb 0 n some) (eq-eqb n n refl); good_value = refl }

    choice_good : {r : ℕ} → Below f k p 0 0 → Below f k q 0 0 → Below f k r 0 0 → Good f k (choice_t p q r)
    unfolding typed
    choice_good {r} P Q R =
        record {
          good_op = refl;
          good_sort = refl;
          good_place = rw (lt-ltb p k P.before, lt-ltb q k Q.before, lt-ltb r k R.before);
          good_type = rw (P.m_is, P.n_is, Q.m_is, Q.n_is, R.m_is, R.n_is);
          good_value = refl;
        }

    read_good : {m n : ℕ} → 0 < m → sorted (constant_t n 0).sort ≡ true → Below f k p m n → Below f k q 0 m → Good f k (read_t n p q)
    unfolding typed
    read_good {m} {n} some sort P Q =
        record {
          good_op = refl;
          good_sort = sort;
          good_place = two_before P Q;
          good_type = rw (P.m_is, P.n_is, Q.m_is, Q.n_is, lt-ltb 0 m some, eq-eqb m m refl) (eq-eqb n n refl);
          good_value = refl;
        }

-- Lists of terms, from b on

abbrev pub AllGood : List ℕ → ℕ → List Term → Type 0
AllGood f b xs = (i : ℕ) → i < length xs → Good f (b + i) (get_or xs i (constant_t 0 0))

-- of a list written out: one by one, from b + i on
infixr 5 ◌▸◌
data Each (f : List ℕ) (b : ℕ) : ℕ → List Term → Type 0 where
  done : {i : ℕ} → Each f b i []
  ◌▸◌ : {i : ℕ} {x : Term} {xs : List Term} → Good f (b + i) x → Each f b (suc i) xs → Each f b i (x ∷ xs)

each_from : {f : List ℕ} {b i : ℕ} {xs : List Term} → Each f b i xs → (j : ℕ) → j < length xs → Good f (b + (i + j)) (get_or xs j (constant_t 0 0))
each_from done j l = absurd (not-suc-le-zero l)
each_from (g ▸ e) zero l = rw add-zero g
each_from {f} {b} {i} (◌▸◌ {xs} g e) (suc j) l =
    let moved : suc i + j ≡ i + suc j = omega arith in
    subst (λ (c : ℕ). Good f (b + c) (get_or xs j (constant_t 0 0))) moved (each_from e j (le_of_suc-le-suc l))

-- Groups: some terms, each good, the last Boolean
pub record GoodGroup (f : List ℕ) (b : ℕ) (xs : List Term) : Type 0 where
  pub all : AllGood f b xs
  pub some : 0 < length xs
  pub last : Below f (b + length xs) (last_of b xs) 0 0

-- one after the other
pub append_good : (f : List ℕ) (b : ℕ) (xs ys : List Term) → GoodGroup f b xs → GoodGroup f (b + length xs) ys → GoodGroup f b (xs ++ ys)
append_good f b xs ys X Y =
    let n = length xs in
    let long : length (xs ++ ys) ≡ n + length ys = length-append xs ys in
    let sx : 0 < n = X.some in
    let sy : 0 < length ys = Y.some in
    let end : b + n + length ys ≡ b + length (xs ++ ys) = omega arith in
    let tail : b + n + pred (length ys) ≡ b + pred (length (xs ++ ys)) = omega arith in
    record {
      all = λ i l. go i l (dec_lt i n);
      some = omega arith;
      last = subst (λ (c : ℕ). Below f c (last_of b (xs ++ ys)) 0 0) end (subst (λ (c : ℕ). Below f (b + n + length ys) c 0 0) tail Y.last);
    }
  where
    go : (i : ℕ) → i < length (xs ++ ys) → Dec (i < length xs) → Good f (b + i) (get_or (xs ++ ys) i (constant_t 0 0))
    go i l (yes c) = subst (Good f (b + i)) (sym (get_or-append xs ys (constant_t 0 0) i c)) (X.all i c)
    go i l (no c) =
        let j = i - length xs in
        let inside : j < length ys = omega (arith, length-append xs ys) in
        let i-is : length xs + j ≡ i = omega arith in
        let at : b + length xs + j ≡ b + i = omega arith in
        subst (Good f (b + i)) (sym (get_or-append-add xs ys j (constant_t 0 0)) ∙ ap (λ (c : ℕ). get_or (xs ++ ys) c (constant_t 0 0)) i-is)
        (subst (λ (c : ℕ). Good f c (get_or ys j (constant_t 0 0))) at (Y.all j inside))

-- the sort of a group's term i
abbrev sort_of : List Term → ℕ → Sort
sort_of xs i = (get_or xs i (constant_t 0 0)).sort

module _ (f : List ℕ) (b : ℕ) (xs : List Term) (h : Has f b xs) where
  -- term i of the group, seen from its term j
  own : (i j : ℕ) → ltb i (length xs) && ltb i j ≡ true → Below f (b + j) (b + i) (sort_of xs i).m (sort_of xs i).n
  own i j t =
      let l : i < length xs = ltb-true i (length xs) (and_parts (ltb i (length xs)) (ltb i j) t).0 in
      let c : i < j = ltb-true i j (and_parts (ltb i (length xs)) (ltb i j) t).1 in
      record { before = omega arith; m_is = ap (λ (x : Term). x.sort.m) (h i l); n_is = ap (λ (x : Term). x.sort.n) (h i l) }

  first : (j : ℕ) → ltb 0 (length xs) && ltb 0 j ≡ true → Below f (b + j) b (sort_of xs 0).m (sort_of xs 0).n
  first j t = subst (λ (c : ℕ). Below f (b + j) c (sort_of xs 0).m (sort_of xs 0).n) (add-zero b) (own 0 j t)

  group_good : Each f b 0 xs → ltb 0 (length xs) && boolean (sort_of xs (pred (length xs))) ≡ true → GoodGroup f b xs
  group_good e t =
      let s = sort_of xs (pred (length xs)) in
      let parts = and_parts (ltb 0 (length xs)) (boolean s) t in
      let sorts = and_parts (eqb s.m 0) (eqb s.n 0) parts.1 in
      let some : 0 < length xs = ltb-true 0 (length xs) parts.0 in
      let inside : pred (length xs) < length xs = omega arith in
      let at : term_at f (b + pred (length xs)) ≡ get_or xs (pred (length xs)) (constant_t 0 0) = h (pred (length xs)) inside in
      record {
        all = λ j l. subst (λ (c : ℕ). Good f (b + c) (get_or xs j (constant_t 0 0))) (zero-add j) (each_from e j l);
        some = some;
        last = record { before = omega arith; m_is = ap (λ (x : Term). x.sort.m) at ∙ eqb-true s.m 0 sorts.0; n_is = ap (λ (x : Term). x.sort.n) at ∙ eqb-true s.n 0 sorts.1 };
      }

-- Each group

module _ (f : List ℕ) (b : ℕ) {cp cq : ℕ} (CP : Below f b cp 0 0) (CQ : Below f b cq 0 0) where
  pub strict_good : Has f b (strict_group cp cq) → GoodGroup f b (strict_group cp cq)
  strict_good h = group_good f b (strict_group cp cq) h (and_good (up 0 CP) (up 0 CQ) ▸ done) refl

  module _ {p q : ℕ} (P : Below f b p 0 0) (Q : Below f b q 0 0) where
    pub conjunction_good : Has f b (and_group b p q cp cq) → GoodGroup f b (and_group b p q cp cq)
    conjunction_good h =
        let it = own f b (and_group b p q cp cq) h in
        group_good f b (and_group b p q cp cq) h
        (not_good (up 0 P)
        ▸ and_good (up 1 CP) (first f b (and_group b p q cp cq) h 1 refl)
        ▸ not_good (up 2 Q)
        ▸ and_good (up 3 CQ) (it 2 3 refl)
        ▸ or_good (it 1 4 refl) (it 3 4 refl)
        ▸ and_good (up 5 CP) (up 5 CQ)
        ▸ or_good (it 4 6 refl) (it 5 6 refl)
        ▸ done)
        refl

    pub disjunction_good : Has f b (or_group b p q cp cq) → GoodGroup f b (or_group b p q cp cq)
    disjunction_good h =
        let it = own f b (or_group b p q cp cq) h in
        group_good f b (or_group b p q cp cq) h
        (and_good (up 0 CP) (up 0 P)
        ▸ and_good (up 1 CQ) (up 1 Q)
        ▸ or_good (first f b (or_group b p q cp cq) h 2 refl) (it 1 2 refl)
        ▸ and_good (up 3 CP) (up 3 CQ)
        ▸ or_good (it 2 4 refl) (it 3 4 refl)
        ▸ done)
        refl

    pub implication_good : Has f b (implies_group b p q cp cq) → GoodGroup f b (implies_group b p q cp cq)
    implication_good h =
        let it = own f b (implies_group b p q cp cq) h in
        group_good f b (implies_group b p q cp cq) h
        (not_good (up 0 P)
        ▸ and_good (up 1 CP) (first f b (implies_group b p q cp cq) h 1 refl)
        ▸ and_good (up 2 CQ) (up 2 Q)
        ▸ or_good (it 1 3 refl) (it 2 3 refl)
        ▸ and_good (up 4 CP) (up 4 CQ)
        ▸ or_good (it 3 5 refl) (it 4 5 refl)
        ▸ done)
        refl

  module _ {n q : ℕ} (sort : sorted (constant_t n 0).sort ≡ true) (Q : Below f b q 0 n) where
    pub absorbing_good : {p : ℕ} → Below f b p 0 n → (value : ℕ) → fits n value ≡ true → Has f b (absorbing_group b n value p q cp cq) → GoodGroup f b (absorbing_group b n value p q cp cq)
    absorbing_good {p} P value fit h =
        let it = own f b (absorbing_group b n value p q cp cq) h in
        let one = first f b (absorbing_group b n value p q cp cq) h in
        group_good f b (absorbing_group b n value p q cp cq) h
        (constant_good n value sort fit
        ▸ equal_good (up 1 P) (one 1 refl)
        ▸ and_good (up 2 CP) (it 1 2 refl)
        ▸ equal_good (up 3 Q) (one 3 refl)
        ▸ and_good (up 4 CQ) (it 3 4 refl)
        ▸ or_good (it 2 5 refl) (it 4 5 refl)
        ▸ and_good (up 6 CP) (up 6 CQ)
        ▸ or_good (it 5 7 refl) (it 6 7 refl)
        ▸ done)
        refl

    -- u and v are the constants
    pub bounds_good : {p s cs : ℕ} → Below f b p 0 n → Below f b s 0 n → Below f b cs 0 0 → (u v : ℕ) → fits n u ≡ true → fits n v ≡ true
        → Has f b (bounds_group b n u v p s cp cs cq) → GoodGroup f b (bounds_group b n u v p s cp cs cq)
    bounds_good {p} {s} {cs} P S CS u v fit fit' h =
        let it = own f b (bounds_group b n u v p s cp cs cq) h in
        group_good f b (bounds_group b n u v p s cp cs cq) h
        (constant_good n u sort fit
        ▸ equal_good (up 1 P) (first f b (bounds_group b n u v p s cp cs cq) h 1 refl)
        ▸ and_good (up 2 CP) (it 1 2 refl)
        ▸ constant_good n v sort fit'
        ▸ equal_good (up 4 S) (it 3 4 refl)
        ▸ and_good (up 5 CS) (it 4 5 refl)
        ▸ or_good (it 2 6 refl) (it 5 6 refl)
        ▸ and_good (up 7 CP) (up 7 CQ)
        ▸ or_good (it 6 8 refl) (it 7 8 refl)
        ▸ done)
        refl

    pub shift_good : 0 < n → fits n n ≡ true → Has f b (shift_group b n q cp cq) → GoodGroup f b (shift_group b n q cp cq)
    shift_good some fit h =
        let it = own f b (shift_group b n q cp cq) h in
        group_good f b (shift_group b n q cp cq) h
        (constant_good n n sort fit
        ▸ less_good some (up 1 Q) (first f b (shift_group b n q cp cq) h 1 refl)
        ▸ not_good (it 1 2 refl)
        ▸ and_good (up 3 CQ) (it 2 3 refl)
        ▸ and_good (up 4 CP) (up 4 CQ)
        ▸ or_good (it 3 5 refl) (it 4 5 refl)
        ▸ done)
        refl

  pub choosing_good : {p q r cr n : ℕ} → Below f b cr 0 0 → Below f b p 0 0 → Below f b q 0 n → Below f b r 0 n → Has f b (choice_group b p q r cp cq cr) → GoodGroup f b (choice_group b p q r cp cq cr)
  choosing_good {p} {q} {r} {cr} CR P Q R h =
      let it = own f b (choice_group b p q r cp cq cr) h in
      group_good f b (choice_group b p q r cp cq cr) h
      (choice_good (up 0 P) (up 0 CQ) (up 0 CR)
      ▸ and_good (up 1 CP) (first f b (choice_group b p q r cp cq cr) h 1 refl)
      ▸ and_good (up 2 CQ) (up 2 CR)
      ▸ equal_good (up 3 Q) (up 3 R)
      ▸ and_good (it 2 4 refl) (it 3 4 refl)
      ▸ or_good (it 1 5 refl) (it 4 5 refl)
      ▸ done)
      refl

pub store_good : (f : List ℕ) (b : ℕ) {m n a i e j ci ce cj d : ℕ} → 0 < m → sorted (constant_t n 0).sort ≡ true
    → Below f b a m n → Below f b i 0 m → Below f b e 0 n → Below f b j 0 m → Below f b ci 0 0 → Below f b ce 0 0 → Below f b cj 0 0 → Below f b d 0 0
    → Has f b (store_group b n a i e j ci ce cj d) → GoodGroup f b (store_group b n a i e j ci ce cj d)
store_good f b {m} {n} {a} {i} {e} {j} {ci} {ce} {cj} {d} some sort A I E J CI CE CJ D h =
    let it = own f b (store_group b n a i e j ci ce cj d) h in
    group_good f b (store_group b n a i e j ci ce cj d) h
    (read_good some sort (up 0 A) (up 0 J)
    ▸ equal_good (up 1 I) (up 1 J)
    ▸ choice_good (it 1 2 refl) (up 2 CE) (up 2 D)
    ▸ and_good (up 3 CI) (up 3 CJ)
    ▸ and_good (it 3 4 refl) (it 2 4 refl)
    ▸ equal_good (up 5 E) (first f b (store_group b n a i e j ci ce cj d) h 5 refl)
    ▸ and_good (up 6 CE) (up 6 D)
    ▸ and_good (it 6 7 refl) (it 5 7 refl)
    ▸ or_good (it 4 8 refl) (it 7 8 refl)
    ▸ done)
    refl

pub array-choice_good : (f : List ℕ) (b : ℕ) {m n c a e j cc dq dr : ℕ} → 0 < m → sorted (constant_t n 0).sort ≡ true
    → Below f b c 0 0 → Below f b a m n → Below f b e m n → Below f b j 0 m → Below f b cc 0 0 → Below f b dq 0 0 → Below f b dr 0 0
    → Has f b (array_choice_group b n c a e j cc dq dr) → GoodGroup f b (array_choice_group b n c a e j cc dq dr)
array-choice_good f b {m} {n} {c} {a} {e} {j} {cc} {dq} {dr} some sort C A E J CC DQ DR h =
    let it = own f b (array_choice_group b n c a e j cc dq dr) h in
    group_good f b (array_choice_group b n c a e j cc dq dr) h
    (read_good some sort (up 0 A) (up 0 J)
    ▸ read_good some sort (up 1 E) (up 1 J)
    ▸ choice_good (up 2 C) (up 2 DQ) (up 2 DR)
    ▸ and_good (up 3 CC) (it 2 3 refl)
    ▸ and_good (up 4 DQ) (up 4 DR)
    ▸ equal_good (first f b (array_choice_group b n c a e j cc dq dr) h 5 refl) (it 1 5 refl)
    ▸ and_good (it 4 6 refl) (it 5 6 refl)
    ▸ or_good (it 3 7 refl) (it 6 7 refl)
    ▸ done)
    refl
