-- Fewer marks never make a free term unfree.
-- Assumes nothing.
use mathlib.Core.Path.{◌≡◌, refl}
use mathlib.Core.Bool.{Bool, true, false, not, ◌&&◌}
use mathlib.Core.List.{List}
use Prim.Native.Nat.{ℕ, zero, suc, pred, ◌<◌}
use native.Mathlib.Decide.{dec_lt}
use native.Mathlib.Nat.{not-suc-le-zero}
use native.Mathlib.Omega.{arith}
use lib.Dec.{eqb}
use Rattle.ops.specs.declared.Op.{Op}
use Rattle.ops.specs.declared.Op.TheVariants.{Constant, Variable, Apply, Ite, Select, Store, Unknown}
use Rattle.ops.specs.Numbers.{op_of}
use Rattle.ops.specs.Meaning.{holds}
use Rattle.ops.specs.Laws.{Implied}
use Rattle.ops.proofs.Booleans.{never}
use Rattle.ops.proofs.Monotone.{and_implied, monotone, choice_monotone}
use Rattle.table.specs.declared.words.Term.{Term}
use Rattle.table.specs.Terms.{terms, term_at, sort_at, array}
use Rattle.setting.specs.Interpretation.{Value, Interpretation}
use Rattle.evaluate.specs.Values.{value_in, values}
use Rattle.judge.specs.Conditions.{Condition, plain, settled, condition_by, condition_in, conditions, condition_at}
use Rattle.judge.specs.Marks.{Fewer, Freer, FewerMarks, FewerMarksRule}
use Rattle.judge.proofs.Alike.{condition_below, condition_past}

freer_plain : (b b' : Bool) → Implied b b' → Freer (plain b) (plain b')
freer_plain b b' p = record { whole = p; read = λ j d d' q. and_implied b b' d d' p q }

-- not marked under more, not marked under fewer
unmarked : (m m' : Bool) → Implied m m' → Implied (not m') (not m)
unmarked true true p h = h
unmarked true false p h = never (p refl)
unmarked false m' p h = refl

renamed : {a a' b b' : Condition} → a ≡ b → a' ≡ b' → Freer b b' → Freer a a'
renamed e e' g = rw (e, e') g

-- one term, from the conditions c and d of the terms before it
module _ (marked marked' : Term → Bool) (fewer : Fewer marked marked') (v : ℕ → Value) (c d : ℕ → Condition) (before : (i : ℕ) → Freer (c i) (d i)) (width : ℕ) (t : Term) where
  freer_settled : (op : Op) → Implied (settled marked' v c width t op) (settled marked v d width t op)
  freer_settled op =
      (monotone op width (v t.p).num (v t.q).num (v t.r).num (c t.p).free (d t.p).free (c t.q).free (d t.q).free (c t.r).free (d t.r).free
      (before t.p).whole (before t.q).whole (before t.r).whole)

  freer_by : (op : Op) → Freer (condition_by marked' v c width t op) (condition_by marked v d width t op)
  unfolding condition_by
  freer_by Constant = freer_plain true true (λ h. h)
  freer_by Variable = freer_plain (not (marked' t)) (not (marked t)) (unmarked (marked t) (marked' t) (fewer t))
  freer_by (Apply f) = freer_plain _ _ (freer_settled (Apply f))
  freer_by Ite =
      record {
        whole = and_implied (not (array t.sort)) (not (array t.sort)) _ _ (λ h. h) (freer_settled Ite);
        read = λ j b b' p.
            choice_monotone (holds (v t.p).num) (eqb ((v t.q).cell j) ((v t.r).cell j)) (c t.p).free (d t.p).free ((c t.q).read_free j b) ((d t.q).read_free j b') ((c t.r).read_free j b) ((d t.r).read_free j b')
            (before t.p).whole ((before t.q).read j b b' p) ((before t.r).read j b b' p);
      }
  freer_by Select = freer_plain _ _ ((before t.p).read (v t.q).num (c t.q).free (d t.q).free (before t.q).whole)
  freer_by Store =
      record {
        whole = λ h. h;
        read = λ j b b' p.
            choice_monotone (eqb (v t.q).num j) (eqb (v t.r).num ((v t.p).cell j)) ((c t.q).free && b) ((d t.q).free && b') (c t.r).free (d t.r).free ((c t.p).read_free j b) ((d t.p).read_free j b')
            (and_implied (c t.q).free (d t.q).free b b' (before t.q).whole p) (before t.r).whole ((before t.p).read j b b' p);
      }
  freer_by Unknown = freer_plain false false (λ h. h)

-- every term, by induction
module _ (w : List ℕ) (marked marked' : Term → Bool) (I : Interpretation) (fewer : Fewer marked marked') where
  abbrev FreerAt : ℕ → Type 0
  FreerAt k = Freer (condition_at w marked' I k) (condition_at w marked I k)

  freer_in : (k : ℕ) → ((i : ℕ) → i < k → FreerAt i) → (i : ℕ) → Freer (condition_in (conditions w marked' I k) i) (condition_in (conditions w marked I k) i)
  freer_in k before i = go (dec_lt i k)
    where
      go : Dec (i < k) → Freer (condition_in (conditions w marked' I k) i) (condition_in (conditions w marked I k) i)
      go (yes l) = renamed (condition_below w marked' I k i l) (condition_below w marked I k i l) (before i l)
      go (no l) = renamed (condition_past w marked' I k i l) (condition_past w marked I k i l) (freer_plain false false (λ h. h))

  freer_within : (n k : ℕ) → k < n → FreerAt k
  freer_within zero k b = absurd (not-suc-le-zero b)
  freer_within (suc n) k b =
      let x = term_at w k in
      freer_by marked marked' fewer (value_in (values w I k)) (condition_in (conditions w marked' I k)) (condition_in (conditions w marked I k))
      (freer_in k (λ i c. freer_within n i (omega arith))) (sort_at w x.p).n x (op_of x.op)

pub fewer_marks : FewerMarks
fewer_marks w marked marked' I fewer k = freer_within w marked marked' I fewer (suc k) k (omega arith)

pub fewer_marks_rule : FewerMarksRule
fewer_marks_rule w marked marked' I fewer = (fewer_marks w marked marked' I fewer (pred (terms w))).whole
