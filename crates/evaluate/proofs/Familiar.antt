-- Familiar facts, from the meanings.
-- Assumes nothing.
use mathlib.Core.Path.{refl, ap, ◌∙◌}
use borrow.Author.Tests.{eq-eqb, ne_eqb}
use Rattle.ops.specs.declared.Op.{Op}
use Rattle.ops.specs.Meaning.{apply}
use Rattle.table.specs.Terms.{term_at, sort_at}
use Rattle.evaluate.specs.Values.{value_by, value_in, values}
use Rattle.evaluate.specs.Laws.{Familiar, SumIs, StoreIs}

pub familiar : Familiar
unfolding apply
familiar = (refl, refl)

pub sum_is : SumIs
unfolding value_by apply
sum_is w I k e = ap (λ (op : Op). (value_by I (value_in (values w I k)) (sort_at w (term_at w k).p).n (term_at w k) op).num) e

pub store_is : StoreIs
unfolding value_by
store_is w I k e =
    let v = value_in (values w I k) in
    record {
      hit = ap (λ (op : Op). (value_by I (value_in (values w I k)) (sort_at w (term_at w k).p).n (term_at w k) op).cell (v (term_at w k).q).num) e ∙ rw (eq-eqb (v (term_at w k).q).num (v (term_at w k).q).num refl);
      miss = λ j h. ap (λ (op : Op). (value_by I (value_in (values w I k)) (sort_at w (term_at w k).p).n (term_at w k) op).cell j) e ∙ rw (ne_eqb (v (term_at w k).q).num j h);
    }
