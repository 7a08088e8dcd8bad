-- The finished table in the room, as the code writes it.
-- Assumes nothing.
use mathlib.Core.Path.{◌≡◌, sym, ap, ap₂, ◌∙◌}
use mathlib.Core.List.{List, [], ◌∷◌, ◌++◌}
use Prim.Native.Nat.{ℕ, pred, suc, ◌+◌, ◌-◌, ◌*◌, ◌≤◌, ◌<◌}
use native.Mathlib.Nat.{add-zero}
use native.Mathlib.Omega.{arith}
use lib.ListN.{length, drop}
use Rattle.table.specs.declared.words.Term.{Term}
use Rattle.table.specs.Terms.{words, terms}
use Rattle.table.specs.Code.Writing.{placed}
use Rattle.table.specs.WellFormed.{WellFormed}
use Rattle.sheets.specs.Marks.{own_marks}
use Rattle.groups.specs.declared.groups.Written.{Written}
use Rattle.groups.specs.Added.{and_t, constant_t, flat}
use Rattle.groups.specs.Code.Writing.{placed_from, placed_all, written}
use Rattle.groups.specs.Plans.{groups, next, plans}
use Rattle.groups.specs.Sizes.{sizes}
use Rattle.finish.specs.Finished.{condition_number, added, finished}
use Rattle.finish.proofs.AddedSizes.{added-size, added-few}
use Rattle.finish.proofs.Layouts.{finished_layout}
use Rattle.groups.proofs.Rooms.{laid_append, laid_front}

module _ (w : List ℕ) (f : WellFormed 512 w) where
  pub count_needed : terms w + 3 + sizes w (terms w) ≡ terms (finished w)
  count_needed = let count : terms (finished w) ≡ terms w + length (added w) = (finished_layout w f).count in omega (arith, added-size w f)

  -- under 80,000
  pub count_most : terms (finished w) ≤ 80000
  count_most =
      let count : terms (finished w) ≡ terms w + length (added w) = (finished_layout w f).count in
      let few : terms w ≤ 512 = f.few in
      let most : length (added w) ≤ 3 + 145 * terms w = (added-few w f).by_terms in
      omega arith

  pub count_some : 0 < terms (finished w)
  count_some = let count : terms (finished w) ≡ terms w + length (added w) = (finished_layout w f).count in omega (arith, f.some)

  -- the table itself fits where the finished one does
  pub own-fits : (room : ℕ) → terms (finished w) * words ≤ room → length w ≤ room
  own-fits room enough =
      let count : terms (finished w) ≡ terms w + length (added w) = (finished_layout w f).count in
      let whole : length w ≡ terms w * words = f.whole in
      omega arith

one_laid : (x : Term) (room : List ℕ) (b : ℕ) → placed_all room b (x ∷ []) ≡ placed room b x
unfolding placed_from
one_laid x room b = ap (λ (k : ℕ). placed room k x) (add-zero b)

two_laid : (x y : Term) (room : List ℕ) (b : ℕ) → placed_all room b (x ∷ y ∷ []) ≡ placed (placed room b x) (b + 1) y
unfolding placed_from
two_laid x y room b = ap (λ (k : ℕ). placed (placed room k x) (b + 1) y) (add-zero b)

module _ (w : List ℕ) (f : WellFormed 512 w) (begin : List ℕ) (enough : terms (finished w) * words ≤ length begin) where
  abbrev n : ℕ
  n = terms w

  abbrev own : List Term
  own = groups (plans w own_marks (terms w))

  abbrev last_term : Term
  last_term = and_t (pred (terms w)) (condition_number w (pred (terms w)))

  -- the whole, one row after the other
  all_laid : (room : List ℕ) → placed (placed_all (placed (placed room n (constant_t 0 1)) (n + 1) (constant_t 0 0)) (n + 2) own) (n + 2 + length own) last_term ≡ placed_all room n (added w)
  all_laid room =
      sym
      (laid_append (constant_t 0 1 ∷ constant_t 0 0 ∷ []) (own ++ (last_term ∷ [])) room n
      ∙ ap (λ (l : List ℕ). placed_all l (n + 2) (own ++ (last_term ∷ []))) (two_laid (constant_t 0 1) (constant_t 0 0) room n)
      ∙ laid_append own (last_term ∷ []) (placed (placed room n (constant_t 0 1)) (n + 1) (constant_t 0 0)) (n + 2)
      ∙ one_laid last_term (placed_all (placed (placed room n (constant_t 0 1)) (n + 1) (constant_t 0 0)) (n + 2) own) (n + 2 + length own))

  finished_laid : placed_all (w ++ drop (length w) begin) n (added w) ≡ finished w ++ drop (length (finished w)) begin
  unfolding finished
  finished_laid =
      let l = finished_layout w f in
      let count : terms (finished w) ≡ terms w + length (added w) = l.count in
      let whole : length w ≡ terms w * words = f.whole in
      let first : length w ≡ (n + 0) * words = omega arith in
      let long : (n + 0 + length (added w)) * words ≡ length (finished w) = omega (arith, l.whole) in
      ap (λ (k : ℕ). placed_all (w ++ drop k begin) n (added w)) first
      ∙ laid_front (added w) w begin n 0 first (omega arith)
      ∙ ap (λ (k : ℕ). (w ++ flat (added w)) ++ drop k begin) long

  -- step by step, as it was written; rule is what writing the groups answered
  pub filled : (count : ℕ) (rule : Written) (copied true-there false-there grouped last : List ℕ) → count ≡ n → rule ≡ written w (pred n)
      → copied ≡ w ++ drop (length w) begin → true-there ≡ placed copied count (constant_t 0 1) → false-there ≡ placed true-there (count + 1) (constant_t 0 0)
      → grouped ≡ placed_all false-there (n + 2) own → last ≡ placed grouped rule.next (and_t (count - 1) rule.condition)
      → last ≡ finished w ++ drop (length (finished w)) begin
  filled count rule copied true-there false-there grouped last c r e1 e2 e3 e4 e5 =
      let some : 0 < n = f.some in
      let one_less : count - 1 ≡ pred n = omega arith in
      let next_is : rule.next ≡ n + 2 + length own = ap (λ (y : Written). y.next) r ∙ ap (λ (k : ℕ). next w (plans w own_marks k)) (let e : suc (pred n) ≡ n = omega arith in e) in
      let t1 = e2 ∙ ap₂ (λ (l : List ℕ) (k : ℕ). placed l k (constant_t 0 1)) e1 c in
      let t2 = e3 ∙ ap₂ (λ (l : List ℕ) (k : ℕ). placed l (k + 1) (constant_t 0 0)) t1 c in
      let t3 = e4 ∙ ap (λ (l : List ℕ). placed_all l (n + 2) own) t2 in
      e5
      ∙ ap₂ (λ (l : List ℕ) (k : ℕ). placed l k (and_t (count - 1) rule.condition)) t3 next_is
      ∙ ap₂ (λ (p q : ℕ). placed (placed_all (placed (placed (w ++ drop (length w) begin) n (constant_t 0 1)) (n + 1) (constant_t 0 0)) (n + 2) own) (n + 2 + length own) (and_t p q)) one_less (ap (λ (y : Written). y.condition) r)
      ∙ all_laid (w ++ drop (length w) begin)
      ∙ finished_laid
