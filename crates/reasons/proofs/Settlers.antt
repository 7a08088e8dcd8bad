-- What the program names as settling an operator does.
-- Assumes nothing.
use Rattle.std.proofs.Common.{◌≡◌, ℕ, ◌≤◌, Bool, true, false, cond, ◌&&◌, ◌||◌, ltb, refl, le_refl, le-ltb, eq-eqb, le-leb}
use Rattle.ops.specs.Numbers.{op_of}
use Rattle.ops.specs.Meaning.{ones}
use Rattle.ops.specs.Signed.{greatest, least}
use Rattle.ops.specs.Condition.{settles}
use Rattle.ops.proofs.Booleans.{or_open}
use Rattle.explain.specs.Operands.{would_settle}
use Rattle.reasons.specs.Settling.{first_of, SettlingSettles}

both : (a b : Bool) → a ≡ true → b ≡ true → (a && b) ≡ true
both true b h k = k
both false b h k = h

-- where one of the six does, the first that does is named
first_does : (test : ℕ → Bool) (n : ℕ) → n ≤ 32 → (((((test 0 || test 1) || test n) || test (ones n)) || test (greatest n)) || test (least n)) ≡ true → test (first_of test n) ≡ true
first_does test n small h = go (test 0) (test 1) (test n) (test (ones n)) (test (greatest n)) refl refl refl refl refl h
  where
    go : (a b c d e : Bool) → test 0 ≡ a → test 1 ≡ b → test n ≡ c → test (ones n) ≡ d → test (greatest n) ≡ e → (((((a || b) || c) || d) || e) || test (least n)) ≡ true
        → test (cond a 0 (cond b 1 (cond (c || ltb 32 n) n (cond d (ones n) (cond e (greatest n) (least n)))))) ≡ true
    go true b c d e zero one wide all top k = zero
    go false true c d e zero one wide all top k = one
    go false false true d e zero one wide all top k = wide
    go false false false true e zero one wide all top k = rw (le-ltb 32 n small) all
    go false false false false true zero one wide all top k = rw (le-ltb 32 n small) top
    go false false false false false zero one wide all top k = rw (le-ltb 32 n small) k

abbrev pub by : ℕ → Bool → ℕ → ℕ → Bool
by op second n v = would_settle (op_of op) n v second

-- 0 or 1; all ones; the bounds of the signed order; the width
pub settling_settles : SettlingSettles
unfolding settles
settling_settles n h =
    let zero-or-one : (op : ℕ) (second : Bool) → (by op second n 0 || by op second n 1) ≡ true → by op second n (first_of (by op second n) n) ≡ true =
    λ op second e. first_does (by op second n) n h (rw e) in
    let all_ones : (op : ℕ) (second : Bool) → by op second n (ones n) ≡ true → by op second n (first_of (by op second n) n) ≡ true =
    λ op second e. first_does (by op second n) n h (rw (e, or_open ((by op second n 0 || by op second n 1) || by op second n n))) in
    let first-bound : by 19 false n (greatest n) ≡ true = rw (eq-eqb (greatest n) (greatest n) refl) in
    let second-bound : by 19 true n (least n) ≡ true = rw (eq-eqb (least n) (least n) refl) in
    let width : by 13 true n n ≡ true = rw (le-leb n n (le_refl n)) in
    both _ _ (both _ _ (zero-or-one 3 false refl) (zero-or-one 3 true refl))
    (both _ _ (both _ _ (zero-or-one 4 false refl) (zero-or-one 4 true refl))
    (both _ _ (both _ _ (zero-or-one 5 false refl) (zero-or-one 5 true refl))
    (both _ _ (both _ _ (zero-or-one 9 false refl) (zero-or-one 9 true refl))
    (both _ _ (both _ _ (all_ones 10 false (rw (eq-eqb (ones n) (ones n) refl))) (all_ones 10 true (rw (eq-eqb (ones n) (ones n) refl))))
    (both _ _ (both _ _ (zero-or-one 12 false refl) (zero-or-one 12 true refl))
    (both _ _ (both _ _ (all_ones 14 false (rw (eq-eqb (ones n) (ones n) refl))) (zero-or-one 14 true refl))
    (both _ _ (both _ _ (first_does (by 19 false n) n h (rw (first-bound, or_open (((by 19 false n 0 || by 19 false n 1) || by 19 false n n) || by 19 false n (ones n)))))
    (first_does (by 19 true n) n h (rw second-bound (or_open ((((by 19 true n 0 || by 19 true n 1) || by 19 true n n) || by 19 true n (ones n)) || by 19 true n (greatest n))))))
    (both _ _ (first_does (by 13 true n) n h (rw (width, or_open (by 13 true n 0 || by 13 true n 1))))
    (zero-or-one 20 false refl)))))))))
