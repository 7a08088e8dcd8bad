-- The operands of a term that is in place: the table has them.
-- Assumes nothing.
use mathlib.Core.Path.{◌≡◌}
use mathlib.Core.Bool.{true, ◌&&◌}
use mathlib.Core.List.{List}
use Prim.Native.Nat.{ℕ}
use native.Mathlib.Omega.{arith}
use lib.Dec.{eqb, ltb}
use borrow.Author.Tests.{ltb-true}
use Rattle.ops.proofs.Booleans.{and_parts}
use Rattle.table.specs.declared.ranks.Fields.TheVariants.{One, Two, Three}
use Rattle.table.specs.declared.words.Term.{Term}
use Rattle.table.specs.Terms.{HasTerm, HasSort}
use Rattle.table.specs.Faults.{placed_as}

module _ (t : List ℕ) (i : ℕ) (x : Term) (inside : HasTerm t i) where
  below_in : (k : ℕ) → ltb k i ≡ true → HasSort t k
  below_in k b = omega (arith, ltb-true k i b)

  pub one_in : placed_as One i x ≡ true → HasSort t x.p
  one_in h =
      let all = and_parts (ltb x.p i && eqb x.q 0) (eqb x.r 0) h in
      below_in x.p (and_parts (ltb x.p i) (eqb x.q 0) all.0).0

  pub two_in : placed_as Two i x ≡ true → (HasSort t x.p) × (HasSort t x.q)
  two_in h =
      let all = and_parts (ltb x.p i && ltb x.q i) (eqb x.r 0) h in
      let both = and_parts (ltb x.p i) (ltb x.q i) all.0 in
      (below_in x.p both.0, below_in x.q both.1)

  pub three_in : placed_as Three i x ≡ true → (HasSort t x.p) × (HasSort t x.q) × (HasSort t x.r)
  three_in h =
      let all = and_parts (ltb x.p i && ltb x.q i) (ltb x.r i) h in
      let both = and_parts (ltb x.p i) (ltb x.q i) all.0 in
      (below_in x.p both.0, below_in x.q both.1, below_in x.r all.1)
