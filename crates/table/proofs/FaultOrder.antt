-- A term's refusals in the order of the code's tests: what is refused where a test fails, and what is left where it holds.
-- Assumes nothing.
use mathlib.Core.Path.{◌≡◌, refl, sym, ◌∙◌}
use mathlib.Core.Bool.{Bool, true, false, not}
use mathlib.Core.List.{List}
use Prim.Native.Nat.{ℕ}
use native.Mathlib.Omega.{arith}
use lib.Dec.{leb}
use Rattle.table.specs.declared.ranks.Rank.{Rank}
use Rattle.table.specs.declared.words.Term.{Term}
use Rattle.table.specs.Terms.{term_at, sort_at}
use Rattle.table.specs.Ranks.{fields_of}
use Rattle.table.specs.Faults.{rank, fields, known, sorted, placed_as, typed_as, typed, valued_as, size, refuse_unless, fault_if}

abbrev three : Bool → Bool → Bool → ℕ → ℕ
three a b c rest = refuse_unless 5 a (refuse_unless 6 b (refuse_unless 7 c rest))

-- 5 to 7 of term i, x, of a rank; then the rest
abbrev pub ranked : List ℕ → ℕ → Rank → Term → ℕ → ℕ
ranked t i r x rest = three (placed_as (fields_of r) i x) (typed_as r x.sort (sort_at t x.p) (sort_at t x.q) (sort_at t x.r)) (valued_as (fields_of r) x) rest

some : (a b c : Bool) (rest : ℕ) → (three a b c 0 ≡ 0 → ⊥) → three a b c 0 ≡ three a b c rest
some false b c rest h = refl
some true false c rest h = refl
some true true false rest h = refl
some true true true rest h = absurd (h refl)

none : (a b c : Bool) (rest : ℕ) → three a b c 0 ≡ 0 → rest ≡ three a b c rest
none false b c rest h = absurd (omega arith)
none true false c rest h = absurd (omega arith)
none true true false rest h = absurd (omega arith)
none true true true rest h = refl

module _ (t : List ℕ) (i : ℕ) (clashing : Bool) where
  pub refused_3 : known (term_at t i) ≡ false → 3 ≡ fault_if t i clashing
  unfolding fault_if
  refused_3 k = rw k

  module _ (k : known (term_at t i) ≡ true) where
    pub refused_4 : sorted (sort_at t i) ≡ false → 4 ≡ fault_if t i clashing
    unfolding fault_if
    refused_4 s = rw (k, s)

    module _ (s : sorted (sort_at t i) ≡ true) where
      after_4 : ranked t i (rank (term_at t i)) (term_at t i) (refuse_unless 8 (not clashing) (refuse_unless 9 (leb (size t i) 16) 0)) ≡ fault_if t i clashing
      unfolding fault_if typed
      after_4 = rw (k, s)

      module _ (n : ℕ) (e : n ≡ ranked t i (rank (term_at t i)) (term_at t i) 0) where
        abbrev placed_x : Bool
        placed_x = placed_as (fields (term_at t i)) i (term_at t i)

        abbrev typed_x : Bool
        typed_x = typed_as (rank (term_at t i)) (sort_at t i) (sort_at t (term_at t i).p) (sort_at t (term_at t i).q) (sort_at t (term_at t i).r)

        abbrev valued_x : Bool
        valued_x = valued_as (fields (term_at t i)) (term_at t i)

        pub refused_ranked : (n ≡ 0 → ⊥) → n ≡ fault_if t i clashing
        refused_ranked h = e ∙ some placed_x typed_x valued_x _ (λ z. h (e ∙ z)) ∙ after_4

        pub left_to_8 : n ≡ 0 → refuse_unless 8 (not clashing) (refuse_unless 9 (leb (size t i) 16) 0) ≡ fault_if t i clashing
        left_to_8 z = none placed_x typed_x valued_x _ (sym e ∙ z) ∙ after_4
