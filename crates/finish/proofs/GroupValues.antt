-- The values of the terms that finishing adds: those of one term of each kind, and that of a group's last term.
-- Assumes nothing.
use mathlib.Core.Path.{◌≡◌, refl, sym, ap, ◌∙◌}
use mathlib.Core.Bool.{Bool, true, false, not, ◌&&◌, ◌||◌, cond}
use mathlib.Core.List.{List}
use Prim.Native.Nat.{ℕ, ◌+◌, ◌<◌}
use native.Mathlib.Decide.{dec_lt}
use native.Mathlib.Omega.{arith}
use lib.Dec.{eqb, ltb, leb, lit<}
use borrow.Author.Tests.{lt-ltb, le-ltb, le-leb, lt-leb}
use Rattle.ops.specs.Meaning.{bit, holds, apply}
use Rattle.ops.specs.Condition.{absorbed, shifted, fixed_by, chosen}
use Rattle.table.specs.declared.words.Term.{Term}
use Rattle.table.specs.Terms.{term_at}
use Rattle.setting.specs.Interpretation.{Value, Interpretation}
use Rattle.evaluate.specs.Values.{value_by, value_from}
use Rattle.judge.proofs.Meaning.{holds-bit}
use Rattle.groups.specs.Added.{not_t, and_t, or_t, equal_t, choice_t, less_t, constant_t, read_t}
use Rattle.groups.specs.Groups.{strict_group, and_group, or_group, implies_group, absorbing_group, bounds_group, shift_group, choice_group, store_group, array_choice_group}
use Rattle.finish.proofs.Layouts.{Has, has_first}

holds-cond : (b : Bool) (x y : ℕ) → holds (cond b x y) ≡ cond b (holds x) (holds y)
holds-cond true x y = refl
holds-cond false x y = refl

num_cond : (b : Bool) (x y : Value) → (cond b x y).num ≡ cond b x.num y.num
num_cond true x y = refl
num_cond false x y = refl

not_less : (x y : ℕ) → not (ltb x y) ≡ leb y x
not_less x y = go (dec_lt x y)
  where
    go : Dec (x < y) → not (ltb x y) ≡ leb y x
    go (yes l) = ap not (lt-ltb x y l) ∙ sym (lt-leb y x l)
    go (no l) = ap not (le-ltb x y (omega arith)) ∙ sym (le-leb y x (omega arith))

-- x is the value of term i, and d the truth of its condition, which has number ci
pub record Known (val : ℕ → Value) (i ci x : ℕ) (d : Bool) : Type 0 where
  pub value : (val i).num ≡ x
  pub free : (val ci).num ≡ bit d

-- val: the values of a table f
module _ (f : List ℕ) (I : Interpretation) (val : ℕ → Value) (law : (k : ℕ) → val k ≡ value_from f I val (term_at f k)) where
  num_of : (k : ℕ) (t : Term) → term_at f k ≡ t → (val k).num ≡ (value_from f I val t).num
  num_of k t e = ap (λ (x : Value). x.num) (law k) ∙ ap (λ (x : Term). (value_from f I val x).num) e

  -- One term

  not_num : {k p : ℕ} → term_at f k ≡ not_t p → (val k).num ≡ bit (not (holds (val p).num))
  unfolding value_by apply
  not_num {k} {p} e = num_of k (not_t p) e

  pub and_num : {k p q : ℕ} → term_at f k ≡ and_t p q → (val k).num ≡ bit (holds (val p).num && holds (val q).num)
  unfolding value_by apply
  and_num {k} {p} {q} e = num_of k (and_t p q) e

  or_num : {k p q : ℕ} → term_at f k ≡ or_t p q → (val k).num ≡ bit (holds (val p).num || holds (val q).num)
  unfolding value_by apply
  or_num {k} {p} {q} e = num_of k (or_t p q) e

  equal_num : {k p q : ℕ} → term_at f k ≡ equal_t p q → (val k).num ≡ bit (eqb (val p).num (val q).num)
  unfolding value_by apply
  equal_num {k} {p} {q} e = num_of k (equal_t p q) e

  choice_num : {k p q r : ℕ} → term_at f k ≡ choice_t p q r → (val k).num ≡ cond (holds (val p).num) (val q).num (val r).num
  unfolding value_by
  choice_num {k} {p} {q} {r} e = num_of k (choice_t p q r) e ∙ num_cond (holds (val p).num) (val q) (val r)

  less_num : {k p q : ℕ} → term_at f k ≡ less_t p q → (val k).num ≡ bit (ltb (val p).num (val q).num)
  unfolding value_by apply
  less_num {k} {p} {q} e = num_of k (less_t p q) e

  pub constant_num : {k n x : ℕ} → term_at f k ≡ constant_t n x → (val k).num ≡ x
  unfolding value_by
  constant_num {k} {n} {x} e = num_of k (constant_t n x) e

  read_num : {k n p q : ℕ} → term_at f k ≡ read_t n p q → (val k).num ≡ (val p).cell (val q).num
  unfolding value_by
  read_num {k} {n} {p} {q} e = num_of k (read_t n p q) e

  -- The last term of a group

  module _ (b : ℕ) {p q cp cq x y : ℕ} {c d : Bool} (first : Known val p cp x c) (second : Known val q cq y d) where
    pub strict_group_lem : Has f b (strict_group cp cq) → (val (b + 0)).num ≡ bit (c && d)
    strict_group_lem h = simp (and_num (h 0 (lit< tt)), first.free, second.free, holds-bit)

    pub and_group_lem : Has f b (and_group b p q cp cq) → (val (b + 6)).num ≡ bit (absorbed c (not (holds x)) d (not (holds y)))
    and_group_lem h =
        let start = has_first f b (and_group b p q cp cq) h (lit< tt) in
        simp (or_num (h 6 (lit< tt)), and_num (h 5 (lit< tt)), or_num (h 4 (lit< tt)), and_num (h 3 (lit< tt)), not_num (h 2 (lit< tt)), and_num (h 1 (lit< tt)), not_num start)
        (simp (first.value, first.free, second.value, second.free, holds-bit))

    pub or_group_lem : Has f b (or_group b p q cp cq) → (val (b + 4)).num ≡ bit (absorbed c (holds x) d (holds y))
    or_group_lem h =
        let start = has_first f b (or_group b p q cp cq) h (lit< tt) in
        simp (or_num (h 4 (lit< tt)), and_num (h 3 (lit< tt)), or_num (h 2 (lit< tt)), and_num (h 1 (lit< tt)), and_num start)
        (simp (first.value, first.free, second.value, second.free, holds-bit))

    pub implies_group_lem : Has f b (implies_group b p q cp cq) → (val (b + 5)).num ≡ bit (absorbed c (not (holds x)) d (holds y))
    implies_group_lem h =
        let start = has_first f b (implies_group b p q cp cq) h (lit< tt) in
        simp (or_num (h 5 (lit< tt)), and_num (h 4 (lit< tt)), or_num (h 3 (lit< tt)), and_num (h 2 (lit< tt)), and_num (h 1 (lit< tt)), not_num start)
        (simp (first.value, first.free, second.value, second.free, holds-bit))

    -- u is the constant
    pub absorbing_group_lem : (n z u : ℕ) → z ≡ u → Has f b (absorbing_group b n z p q cp cq) → (val (b + 7)).num ≡ bit (absorbed c (eqb x u) d (eqb y u))
    absorbing_group_lem n z u e h =
        let start = has_first f b (absorbing_group b n z p q cp cq) h (lit< tt) in
        simp (or_num (h 7 (lit< tt)), and_num (h 6 (lit< tt)), or_num (h 5 (lit< tt)), and_num (h 4 (lit< tt)), equal_num (h 3 (lit< tt)), and_num (h 2 (lit< tt)), equal_num (h 1 (lit< tt)), constant_num start ∙ e)
        (simp (first.value, first.free, second.value, second.free, holds-bit))

    -- u and v are the constants
    pub bounds_group_lem : (n u v : ℕ) → Has f b (bounds_group b n u v p q cp cq cq) → (val (b + 8)).num ≡ bit (absorbed c (eqb x u) d (eqb y v))
    bounds_group_lem n u v h =
        let start = has_first f b (bounds_group b n u v p q cp cq cq) h (lit< tt) in
        simp (or_num (h 8 (lit< tt)), and_num (h 7 (lit< tt)), or_num (h 6 (lit< tt)), and_num (h 5 (lit< tt)), equal_num (h 4 (lit< tt)), constant_num (h 3 (lit< tt)), and_num (h 2 (lit< tt)), equal_num (h 1 (lit< tt)), constant_num start)
        (simp (first.value, first.free, second.value, second.free, holds-bit))

    -- 0 and u are the constants, both of the first operand
    pub fixed_group : (n z u : ℕ) → z ≡ u → Has f b (bounds_group b n 0 z p p cp cp cq) → (val (b + 8)).num ≡ bit (fixed_by c d (eqb x 0) (eqb x u))
    fixed_group n z u e h =
        let start = has_first f b (bounds_group b n 0 z p p cp cp cq) h (lit< tt) in
        simp (or_num (h 8 (lit< tt)), and_num (h 7 (lit< tt)), or_num (h 6 (lit< tt)), and_num (h 5 (lit< tt)), equal_num (h 4 (lit< tt)), constant_num (h 3 (lit< tt)) ∙ e, and_num (h 2 (lit< tt)), equal_num (h 1 (lit< tt)), constant_num start)
        (simp (first.value, first.free, second.free, holds-bit))

    -- u is the width
    pub shift_group_lem : (n u : ℕ) → n ≡ u → Has f b (shift_group b n q cp cq) → (val (b + 5)).num ≡ bit (shifted c d (leb u y))
    shift_group_lem n u e h =
        let start = has_first f b (shift_group b n q cp cq) h (lit< tt) in
        simp (or_num (h 5 (lit< tt)), and_num (h 4 (lit< tt)), and_num (h 3 (lit< tt)), not_num (h 2 (lit< tt)), less_num (h 1 (lit< tt)), constant_num start ∙ e)
        (simp (first.free, second.value, second.free, holds-bit, not_less))

    pub choice_group_lem : {r cr z : ℕ} {e : Bool} → Known val r cr z e → Has f b (choice_group b p q r cp cq cr) → (val (b + 5)).num ≡ bit (chosen c (holds x) d e (eqb y z))
    choice_group_lem {r} {cr} third h =
        let start = has_first f b (choice_group b p q r cp cq cr) h (lit< tt) in
        simp (or_num (h 5 (lit< tt)), and_num (h 4 (lit< tt)), equal_num (h 3 (lit< tt)), and_num (h 2 (lit< tt)), and_num (h 1 (lit< tt)), choice_num start)
        (simp (first.value, first.free, second.value, second.free, third.value, third.free, holds-bit, holds-cond))

  -- a store of e at i over array a, read at j; k is the number of D below
  pub store_group_lem : (s n : ℕ) {a i e j ci ce cj k x y z : ℕ} {array : Value} {c d m : Bool} (below : Bool)
      → val a ≡ array → Known val i ci x c → Known val e ce y d → Known val j cj z m → (val k).num ≡ bit below → Has f s (store_group s n a i e j ci ce cj k)
      → (val (s + 8)).num ≡ bit (chosen (c && m) (eqb x z) d below (eqb y (array.cell z)))
  store_group_lem s n {a} {i} {e} {j} {ci} {ce} {cj} {k} below over at stored index beneath h =
      let start = has_first f s (store_group s n a i e j ci ce cj k) h (lit< tt) in
      simp (or_num (h 8 (lit< tt)), and_num (h 7 (lit< tt)), and_num (h 6 (lit< tt)), equal_num (h 5 (lit< tt)), and_num (h 4 (lit< tt)), and_num (h 3 (lit< tt)), choice_num (h 2 (lit< tt)), equal_num (h 1 (lit< tt)), read_num start)
      (simp (over, at.value, at.free, stored.value, stored.free, index.value, index.free, beneath, holds-bit, holds-cond))

  -- a choice by c between arrays a and e, read at j; k and l are the numbers of Dq and Dr
  pub array-choice_group : (s n : ℕ) {c a e j cc cj k l x z : ℕ} {first second : Value} {d m : Bool} (dq dr : Bool)
      → Known val c cc x d → val a ≡ first → val e ≡ second → Known val j cj z m → (val k).num ≡ bit dq → (val l).num ≡ bit dr → Has f s (array_choice_group s n c a e j cc k l)
      → (val (s + 7)).num ≡ bit (chosen d (holds x) dq dr (eqb (first.cell z) (second.cell z)))
  array-choice_group s n {c} {a} {e} {j} {cc} {cj} {k} {l} dq dr test q r index of-q of-r h =
      let start = has_first f s (array_choice_group s n c a e j cc k l) h (lit< tt) in
      simp (or_num (h 7 (lit< tt)), and_num (h 6 (lit< tt)), equal_num (h 5 (lit< tt)), and_num (h 4 (lit< tt)), and_num (h 3 (lit< tt)), choice_num (h 2 (lit< tt)), read_num (h 1 (lit< tt)), read_num start)
      (simp (q, r, test.value, test.free, index.value, of-q, of-r, holds-bit, holds-cond))
