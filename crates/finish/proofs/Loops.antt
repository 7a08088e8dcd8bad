-- What is known at each turn of the loops: counting the groups, writing them.
-- Assumes nothing.
use mathlib.Core.Path.{◌≡◌, refl, sym, ap, ap₂, ◌∙◌}
use mathlib.Core.List.{List, [], ◌∷◌, ◌++◌}
use Prim.Native.Nat.{ℕ, suc, pred, ◌+◌, ◌*◌, ◌≤◌, ◌<◌}
use native.Mathlib.Numerals.{add-one}
use native.Mathlib.Omega.{arith}
use lib.ListN.{length, take, set, length-set}
use lib.Seq.{length-take-le, take-suc-set}
use Rattle.table.specs.Folds.{fold}
use Rattle.table.specs.Terms.{terms, term_at}
use Rattle.table.specs.WellFormed.{WellFormed}
use Rattle.table.proofs.FoldLaws.{map-fold-more}
use Rattle.sheets.specs.Marks.{own_marks}
use Rattle.groups.specs.declared.groups.Written.{Written}
use Rattle.groups.specs.Code.Writing.{placed_from, placed_all, condition_numbers, Numbered, written}
use Rattle.groups.specs.Plans.{plan_of, groups, next, plans, plan_at}
use Rattle.groups.specs.Sizes.{size_of, sizes}
use Rattle.groups.proofs.GroupSizes.{groups-more, groups-size, sizes_by_terms}
use Rattle.groups.proofs.Rooms.{length_laid, laid_append}

-- Counting: the groups of the first i terms

pub record Counted (w : List ℕ) (n sum i : ℕ) : Type 0 where
  pub within : i ≤ n
  pub is : sum ≡ sizes w i

pub none-counted : (w : List ℕ) (n : ℕ) → Counted w n 0 0
unfolding sizes
none-counted w n = record { within = omega arith; is = refl }

module _ (w : List ℕ) (n sum i : ℕ) (h : Counted w n sum i) where
  pub one_counted : i < n → (s : ℕ) → s ≡ size_of w (term_at w i) → Counted w n (sum + s) (i + 1)
  unfolding sizes
  one_counted inside s e = record { within = omega arith; is = rw add-one (ap₂ ◌+◌ h.is e) }

  -- it stays small
  pub one_more-fits : WellFormed 512 w → n ≡ terms w → i < n → (s : ℕ) → s ≡ size_of w (term_at w i) → sum + s ≤ 145 * terms w
  one_more-fits f all inside s e =
      let next_one = one_counted inside s e in
      let most : sizes w (i + 1) ≤ 145 * (i + 1) = sizes_by_terms w f (i + 1) (omega arith) in
      omega (arith, next_one.is)

  pub all-counted : n ≤ i → sum ≡ sizes w n
  all-counted end =
      let e : i ≡ n = let b : i ≤ n = h.within in omega arith in
      h.is ∙ ap (sizes w) e

-- Writing: the groups of the first i terms, and the numbers of their conditions

pub record Writing (w begin : List ℕ) (n : ℕ) (room conditions : List ℕ) (condition next_one i : ℕ) : Type 0 where
  pub within : i ≤ n
  pub size : length conditions ≡ 512
  pub numbers : take i conditions ≡ condition_numbers w i
  pub next_is : next_one ≡ next w (plans w own_marks i)
  pub room_is : room ≡ placed_all begin (terms w + 2) (groups (plans w own_marks i))
  pub last_is : 0 < i → condition ≡ (plan_at w own_marks (pred i)).condition

pub none_written : (w begin conditions : List ℕ) (n condition next_one : ℕ) → length conditions ≡ 512 → next_one ≡ terms w + 2 → Writing w begin n begin conditions condition next_one 0
unfolding fold groups placed_from
none_written w begin conditions n condition next_one size e =
    record { within = omega arith; size = size; numbers = refl; next_is = omega arith; room_is = refl; last_is = λ b. absurd (omega arith) }

module _ (w begin : List ℕ) (n : ℕ) (room conditions : List ℕ) (condition next_one i : ℕ) (f : WellFormed 512 w) (all : n ≡ terms w)
    (h : Writing w begin n room conditions condition next_one i) where
  pub same_room : length room ≡ length begin
  same_room = ap length h.room_is ∙ length_laid (groups (plans w own_marks i)) begin (terms w + 2) 0

  pub next-most : next_one ≤ 79000
  next-most =
      let b : i ≤ terms w = let c : i ≤ n = h.within in omega arith in
      let most : sizes w i ≤ 145 * i = sizes_by_terms w f i b in
      let few : terms w ≤ 512 = f.few in
      omega (arith, h.next_is, groups-size w own_marks f i b)

  module _ (inside : i < n) where
    low : i < 512
    low = let few : terms w ≤ 512 = f.few in omega arith

    pub prefix_fits : i ≤ length conditions
    prefix_fits = omega (arith, low, h.size)

    pub front_is : i ≡ length (take i conditions)
    front_is = sym (length-take-le i conditions prefix_fits)

    pub numbered : Numbered w (take i conditions)
    numbered =
        let size : length (take i conditions) ≡ i = sym front_is in
        record { within = omega arith; is = h.numbers ∙ ap (condition_numbers w) front_is }

    pub one_written : (done : Written) (after : List ℕ) → done ≡ written w i → after ≡ placed_all room next_one (plan_at w own_marks i).group
        → Writing w begin n after (set conditions i done.condition) done.condition done.next (i + 1)
    one_written done after e wrote =
        let here : done.condition ≡ (plan_at w own_marks i).condition = ap (λ (y : Written). y.condition) e in
        let up : suc i ≡ i + 1 = sym (add-one i) in
        record {
          within = omega arith;
          size = length-set conditions i done.condition ∙ h.size;
          numbers =
              ap (λ (k : ℕ). take k (set conditions i done.condition)) (sym up)
              ∙ take-suc-set conditions i done.condition (omega (arith, low, h.size))
              ∙ ap₂ (λ (l : List ℕ) (c : ℕ). l ++ (c ∷ [])) h.numbers here
              ∙ sym (map-fold-more (λ ps k. plan_of w own_marks ps (term_at w k)) (λ y. y.condition) i);
          next_is = ap (λ (y : Written). y.next) e ∙ ap (λ (k : ℕ). next w (plans w own_marks k)) up;
          room_is =
              wrote
              ∙ ap₂ (λ (l : List ℕ) (k : ℕ). placed_all l k (plan_at w own_marks i).group) h.room_is h.next_is
              ∙ sym (laid_append (groups (plans w own_marks i)) (plan_at w own_marks i).group begin (terms w + 2))
              ∙ ap (placed_all begin (terms w + 2)) (sym (groups-more w own_marks i) ∙ ap (λ (k : ℕ). groups (plans w own_marks k)) up);
          last_is = λ b. here ∙ ap (λ (k : ℕ). (plan_at w own_marks k).condition) (ap pred up);
        }

  module _ (end : n ≤ i) where
    at_end : i ≡ terms w
    at_end = let b : i ≤ n = h.within in omega arith

    pub all-written : record { condition = condition; next = next_one } ≡ written w (pred (terms w))
    all-written =
        let some : 0 < terms w = f.some in
        let c : condition ≡ (plan_at w own_marks (pred (terms w))).condition = h.last_is (omega (arith, at_end)) ∙ ap (λ (k : ℕ). (plan_at w own_marks (pred k)).condition) at_end in
        let last_one : terms w ≡ suc (pred (terms w)) = omega arith in
        let m : next_one ≡ next w (plans w own_marks (suc (pred (terms w)))) = h.next_is ∙ ap (λ (k : ℕ). next w (plans w own_marks k)) (at_end ∙ last_one) in
        λ k. record { condition = c k; next = m k }

    pub room_written : room ≡ placed_all begin (terms w + 2) (groups (plans w own_marks (terms w)))
    room_written = h.room_is ∙ ap (λ (k : ℕ). placed_all begin (terms w + 2) (groups (plans w own_marks k))) at_end
