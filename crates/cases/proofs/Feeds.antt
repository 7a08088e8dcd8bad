-- Line feeds.
-- Assumes nothing.
use Rattle.std.proofs.Common.{◌≡◌, ℕ, ◌≤◌, min, cond, ltb, Bool, true, false, List, length, take, eqb, refl, sym, ◌∙◌, arith}
use Rattle.std.proofs.lemmas.Bool.Decides.{nat_tests}
use Rattle.std.proofs.lemmas.List.Recursion.{is_count_by}
use Rattle.std.specs.List.{count_by}
use Rattle.std.proofs.Math.Seq.{take_all, take-length}
use borrow.Author.Tests.{ltb-false}
use Rattle.cases.specs.Places.{lower, feed, feeds}

pub feed-most : (b : ℕ) → feed b ≤ 1
feed-most b = grind (arith, nat_tests)

pub feeds_count : (bs : List ℕ) → feeds bs ≡ count_by (λ b. eqb b 10) bs
unfolding feeds
feeds_count = is_count_by feeds (λ b. eqb b 10) refl (λ b bs. grind (arith, nat_tests))

pub lower-min : (a b : ℕ) → lower a b ≡ min a b
lower-min a b = grind (arith, nat_tests)

-- a front that ends with the list
pub take-lower : (n : ℕ) (text : List ℕ) → take (lower n (length text)) text ≡ take n text
take-lower n text = go (ltb n (length text)) refl
  where
    go : (t : Bool) → ltb n (length text) ≡ t → take (cond t n (length text)) text ≡ take n text
    go true e = refl
    go false e = take-length text ∙ sym (take_all n text (ltb-false n (length text) e))

pub take-min : (n : ℕ) (text : List ℕ) → take (min n (length text)) text ≡ take n text
take-min n text = rw (sym (lower-min n (length text))) (take-lower n text)

pub lower-most : (a b : ℕ) → (lower a b ≤ a) × (lower a b ≤ b)
lower-most a b = (grind (arith, nat_tests), grind (arith, nat_tests))
