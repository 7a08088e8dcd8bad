-- What a value comes from is short.
-- Assumes nothing.
use mathlib.Core.Path.{◌≡◌, refl, ap, ap₂}
use mathlib.Core.Bool.{Bool, true, false, ◌&&◌}
use mathlib.Core.List.{List}
use Prim.Native.Nat.{ℕ, suc, ◌+◌, ◌≤◌}
use native.Mathlib.Omega.{arith}
use lib.Dec.{eqb}
use lib.ListN.{length, get_or}
use borrow.Author.Tests.{lt-ltb}
use Rattle.ops.specs.declared.Op.{Op}
use Rattle.ops.specs.declared.Op.TheVariants.{Constant, Variable, Apply, Ite, Select, Store, Unknown}
use Rattle.ops.specs.Numbers.{op_of}
use Rattle.ops.specs.Meaning.{holds}
use Rattle.ops.specs.Ranks.{Arity, FunctionRank, function_rank}
use Rattle.ops.specs.Ranks.FunctionRank.{bool_unary, bool_binary, equality, bv_unary, bv_binary, bv_compare}
use Rattle.ops.proofs.Booleans.{never}
use Rattle.table.specs.declared.words.Sort.{Sort}
use Rattle.table.specs.Terms.{term_at, array}
use Rattle.table.specs.Ranks.{applied, rank_of, slotted, picks, writes}
use Rattle.table.specs.Faults.{size}
use Rattle.table.specs.WellFormed.{Tree}
use Rattle.table.specs.WellFormed.Tree.{variable, store, choice}
use Rattle.table.proofs.ArrayTerms.{array-terms}
use Rattle.setting.specs.Interpretation.{Interpretation}
use Rattle.explain.specs.Sources.{stacked, along, shape_of, support_by, support}
use Rattle.explain.specs.Laws.{FewSources}
use Rattle.explain.proofs.Alongs.{of-picked, along_end, along_hit, along_miss, along-branch}
use Rattle.explain.proofs.Supports.{Made, literal, input, function, choice as choosing-term, read, store as storing-term, fork, made}

no_store : (op : Op) → slotted op ≡ true → writes op ≡ false
no_store Constant h = refl
no_store Variable h = refl
no_store (Apply f) h = refl
no_store Ite h = refl
no_store Select h = refl
no_store Store h = never h
no_store Unknown h = refl

no-choice : (op : Op) (s : Sort) → slotted op ≡ true → (picks op && array s) ≡ false
no-choice Constant s h = never h
no-choice Variable s h = refl
no-choice (Apply f) s h = never h
no-choice Ite s h = never h
no-choice Select s h = never h
no-choice Store s h = never h
no-choice Unknown s h = never h

module _ (w values : List ℕ) where
  -- an index for each store, a test for each choice, and a value or the variable
  short-along : (j n a : ℕ) → Tree w a n → length (along w values a j) ≤ suc n
  short-along j n a (variable v) =
      let e = ap length (along_end w values j a (no_store (op_of (term_at w a).op) v) (no-choice (op_of (term_at w a).op) (term_at w a).sort v)) in
      omega arith
  short-along j n a (store {n = m} s pb sort u) =
      go (eqb (get_or values (term_at w a).q 0) j) refl (short-along j m (term_at w a).p u)
    where
      stacks : stacked (term_at w a) a ≡ true
      stacks = ap₂ ◌&&◌ s (lt-ltb (term_at w a).p a pb)

      go : (h : Bool) → eqb (get_or values (term_at w a).q 0) j ≡ h → length (along w values (term_at w a).p j) ≤ suc m → length (along w values a j) ≤ suc (suc m)
      go true h b = let e = ap length (along_hit w values j a stacks h) in omega arith
      go false h b = let e = ap length (along_miss w values j a stacks h) in omega arith
  short-along j n a (choice {m = m} {n = n'} c qb rb qs rs t u) =
      let x = term_at w a in
      let e = ap length (along-branch w values j a (λ i. c i && lt-ltb x.q a qb i && lt-ltb x.r a rb i)) in
      let q : length (along w values x.q j) ≤ suc (m + n') = omega (arith, short-along j m x.q t) in
      let r : length (along w values x.r j) ≤ suc (m + n') = omega (arith, short-along j n' x.r u) in
      let b = of-picked (λ i. length (along w values i j) ≤ suc (m + n')) (holds (get_or values x.p 0)) q r in
      omega arith

  module _ (k : ℕ) where
    support_as : (op : Op) → op_of (term_at w k).op ≡ op → length (support w values (term_at w k)) ≡ length (support_by w values (term_at w k) (shape_of (rank_of op)))
    unfolding support
    support_as op e = ap (λ (o : Op). length (support_by w values (term_at w k) (shape_of (rank_of o)))) e

    function_few : {n : Arity} (r : FunctionRank n) → length (support_by w values (term_at w k) (shape_of (applied r))) ≤ 18
    function_few bool_unary = omega arith
    function_few bool_binary = omega arith
    function_few equality = omega arith
    function_few bv_unary = omega arith
    function_few bv_binary = omega arith
    function_few bv_compare = omega arith

-- by the term's operator, which no interpretation changes
pub few_sources : FewSources
few_sources limit w values f k b = go (made limit w none f k b)
  where
    none : Interpretation
    none slot = record { num = 0; cell = λ j. 0 }

    go : Made limit w none f k b → length (support w values (term_at w k)) ≤ 18
    go (literal e) = let l = support_as w values k Constant e in omega arith
    go (input e) = let l = support_as w values k Variable e in omega arith
    go (function g e o) = let l = support_as w values k (Apply g) e in let c = function_few w values k (function_rank g) in omega arith
    go (choosing-term e flat s p q r) = let l = support_as w values k Ite e in omega arith
    go (read e s pb ps q) =
        let tree = array-terms limit w f (term_at w k).p (omega arith) ps in
        let l = support_as w values k Select e in
        let c = short-along w values (get_or values (term_at w k).q 0) (size w (term_at w k).p) (term_at w k).p tree.tree in
        let few = tree.small in
        omega arith
    go (storing-term s) = let l = support_as w values k Store s.is in omega arith
    go (fork c) = let l = support_as w values k Ite c.is in omega arith
