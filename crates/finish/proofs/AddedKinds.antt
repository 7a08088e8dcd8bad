-- No added term is a variable or a store.
-- Assumes nothing.
use mathlib.Core.Path.{◌≡◌, refl, sym, ap, subst, ◌∙◌}
use mathlib.Core.Bool.{Bool, true, false, not, ◌&&◌, ◌||◌}
use mathlib.Core.List.{List, [], ◌∷◌, ◌++◌}
use Prim.Native.Nat.{ℕ, zero, suc, pred, ◌+◌, ◌<◌}
use native.Mathlib.Decide.{dec_lt}
use native.Mathlib.Nat.{not-suc-le-zero, le_of_suc-le-suc}
use native.Mathlib.Omega.{arith}
use lib.ListN.{length, get_or, get_or-eq_default}
use borrow.Author.Tests.{not-true}
use Rattle.ops.specs.Numbers.{op_of}
use Rattle.ops.proofs.Booleans.{and_parts, or_neither}
use Rattle.table.specs.declared.words.Term.{Term}
use Rattle.table.specs.Folds.{fold}
use Rattle.table.specs.Terms.{terms, term_at, sort_at, array}
use Rattle.table.specs.Faults.{is_variable, is_store}
use Rattle.table.proofs.FoldLaws.{length-fold}
use Rattle.sheets.specs.Marks.{own_marks}
use Rattle.groups.specs.declared.kinds.GroupKind.{GroupKind}
use Rattle.groups.specs.declared.kinds.GroupKind.TheVariants.{Literal, Input, Unary, Strict, Conjunction, Disjunction, Implication, Zero, Ones, Bounds, SignedBounds, Fixed, Shift, Choice, Read, Write}
use Rattle.groups.specs.Added.{and_t, constant_t}
use Rattle.groups.specs.Groups.{store_group, array_choice_group}
use Rattle.groups.specs.FunctionGroups.{kind_of}
use Rattle.groups.specs.Plans.{Plan, last_of, taken, cp, cq, cr, plan_by, plan_in, plan_of, groups, next, plans, plan_at}
use Rattle.finish.specs.Finished.{condition_number, added}
use Rattle.groups.proofs.GroupSizes.{choice_plan, plan_below, groups-more}

-- none of the terms is a variable or a store
unfoldable quiet : List Term → Bool
quiet [] = true
quiet (x ∷ xs) = not (is_variable x || is_store x) && quiet xs

quiet_append : (xs ys : List Term) → quiet xs ≡ true → quiet ys ≡ true → quiet (xs ++ ys) ≡ true
unfolding quiet
quiet_append [] ys p q = q
quiet_append (x ∷ xs) ys p q =
    let parts = and_parts (not (is_variable x || is_store x)) (quiet xs) p in
    rw parts.0 (quiet_append xs ys parts.1 q)

quiet_at : (xs : List Term) (d : Term) → quiet xs ≡ true → (i : ℕ) → i < length xs → (is_variable (get_or xs i d) ≡ false) × (is_store (get_or xs i d) ≡ false)
unfolding quiet
quiet_at [] d h i b = absurd (not-suc-le-zero b)
quiet_at (x ∷ xs) d h zero b = or_neither (is_variable x) (is_store x) (not-true (is_variable x || is_store x) (and_parts (not (is_variable x || is_store x)) (quiet xs) h).0)
quiet_at (x ∷ xs) d h (suc i) b = quiet_at xs d (and_parts (not (is_variable x || is_store x)) (quiet xs) h).1 i (le_of_suc-le-suc b)

-- The groups of one term

record Quiet (x : Plan) : Type 0 where
  whole : quiet x.group ≡ true
  read : (s j cj : ℕ) → quiet (x.read_group s j cj) ≡ true

quiet_taken : (c : ℕ) → Quiet (taken c)
unfolding quiet
quiet_taken c = record { whole = refl; read = λ s j cj. refl }

module _ (marked : Term → Bool) (yes no : ℕ) (plan : ℕ → Plan) (b width : ℕ) (t : Term) (before : (i : ℕ) → Quiet (plan i)) where
  quiet_choice : (z : Bool) → Quiet (choice_plan marked yes no plan b width t z)
  unfolding quiet
  quiet_choice true =
      record {
        whole = refl;
        read = λ s j cj.
            let q : List Term = (plan t.q).read_group s j cj in
            let r : List Term = (plan t.r).read_group (s + length q) j cj in
            let eight : List Term = array_choice_group (s + length q + length r) t.sort.n t.p t.q t.r j (cp marked yes no plan b width t) (last_of s q) (last_of (s + length q) r) in
            quiet_append q (r ++ eight) ((before t.q).read s j cj) (quiet_append r eight ((before t.r).read (s + length q) j cj) refl);
      }
  quiet_choice false = record { whole = refl; read = λ s j cj. refl }

  quiet_by : (kind : GroupKind) → Quiet (plan_by marked yes no plan b width t kind)
  unfolding plan_by quiet
  quiet_by Literal = record { whole = refl; read = λ s j cj. refl }
  quiet_by Input = record { whole = refl; read = λ s j cj. refl }
  quiet_by Unary = record { whole = refl; read = λ s j cj. refl }
  quiet_by Strict = record { whole = refl; read = λ s j cj. refl }
  quiet_by Conjunction = record { whole = refl; read = λ s j cj. refl }
  quiet_by Disjunction = record { whole = refl; read = λ s j cj. refl }
  quiet_by Implication = record { whole = refl; read = λ s j cj. refl }
  quiet_by Zero = record { whole = refl; read = λ s j cj. refl }
  quiet_by Ones = record { whole = refl; read = λ s j cj. refl }
  quiet_by Bounds = record { whole = refl; read = λ s j cj. refl }
  quiet_by SignedBounds = record { whole = refl; read = λ s j cj. refl }
  quiet_by Fixed = record { whole = refl; read = λ s j cj. refl }
  quiet_by Shift = record { whole = refl; read = λ s j cj. refl }
  quiet_by Choice = quiet_choice (array t.sort)
  quiet_by Read = record { whole = (before t.p).read b t.q (cq marked yes no plan b width t); read = λ s j cj. refl }
  quiet_by Write =
      record {
        whole = refl;
        read = λ s j cj.
            let below : List Term = (plan t.p).read_group s j cj in
            quiet_append below
            (store_group (s + length below) t.sort.n t.p t.q t.r j (cq marked yes no plan b width t) (cr marked yes no plan b width t) cj (last_of s below))
            ((before t.p).read s j cj) refl;
      }

-- Every term of the table

module _ (w : List ℕ) (marked : Term → Bool) where
  -- of a passed term by what is known of it, of another by default
  quiet_in : (k : ℕ) → ((i : ℕ) → i < k → Quiet (plan_at w marked i)) → (i : ℕ) → Quiet (plan_in (plans w marked k) i)
  quiet_in k before i = go (dec_lt i k)
    where
      go : Dec (i < k) → Quiet (plan_in (plans w marked k) i)
      go (yes b) = subst Quiet (sym (plan_below w marked k i b)) (before i b)
      go (no b) = subst Quiet (sym (get_or-eq_default (plans w marked k) (taken 0) (rw (length-fold (λ ps j. plan_of w marked ps (term_at w j)) k) (omega arith)))) (quiet_taken 0)

  quiet_within : (n k : ℕ) → k < n → Quiet (plan_at w marked k)
  quiet_within zero k b = absurd (not-suc-le-zero b)
  quiet_within (suc n) k b =
      quiet_by marked (terms w) (terms w + 1) (plan_in (plans w marked k)) (next w (plans w marked k)) (sort_at w (term_at w k).p).n (term_at w k)
      (quiet_in k (λ i l. quiet_within n i (omega arith))) (kind_of (op_of (term_at w k).op))

  quiet_groups : (k : ℕ) → quiet (groups (plans w marked k)) ≡ true
  unfolding fold groups quiet
  quiet_groups zero = refl
  quiet_groups (suc k) =
      ap quiet (groups-more w marked k)
      ∙ quiet_append (groups (plans w marked k)) (plan_at w marked k).group (quiet_groups k) (quiet_within (suc k) k (omega arith)).whole

quiet_added : (w : List ℕ) → quiet (added w) ≡ true
unfolding quiet
quiet_added w =
    let rule = pred (terms w) in
    quiet_append (groups (plans w own_marks (terms w))) (and_t rule (condition_number w rule) ∷ []) (quiet_groups w own_marks (terms w)) refl

pub no_inputs : (w : List ℕ) (i : ℕ) → i < length (added w) → (is_variable (get_or (added w) i (constant_t 0 0)) ≡ false) × (is_store (get_or (added w) i (constant_t 0 0)) ≡ false)
no_inputs w i b = quiet_at (added w) (constant_t 0 0) (quiet_added w) i b
