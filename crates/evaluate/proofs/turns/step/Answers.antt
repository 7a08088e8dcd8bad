use mathlib.Core.Path.{◌≡◌, sym, ap, subst, ◌∙◌}
use Prim.Native.Nat.{ℕ, ◌+◌, ◌<◌}
use native.Mathlib.Omega.{arith}
use lib.ListN.{length, length-set, set, take}
use lib.Seq.{length-take-le}
use Rattle.table.specs.declared.words.Term.{Term}
use Rattle.table.specs.Terms.{terms, term_at}
use Rattle.evaluate.specs.Code.Turns.{number_of, onward, numbered}
use Rattle.evaluate.proofs.turns.step.Goals as goal

pub slice_bounds-number-end-2 : goal.slice_bounds-number-end-2
slice_bounds-number-end-2 c = sym (length-take-le c.args.turn.at c.args.work.now (omega (arith, c.requires.at_lt_terms)))

pub number-value-requires : goal.number-value-requires
number-value-requires c =
    let long : length (take c.args.turn.at c.args.work.now) ≡ c.args.turn.at = length-take-le c.args.turn.at c.args.work.now (omega (arith, c.requires.at_lt_terms.0, c.requires.at_lt_terms.1)) in
    record { well_formed = c.requires.well_formed; next = record { inside = subst (λ (k : ℕ). k < terms c.args.table.now) (sym long) (omega (arith, c.requires.terms_value, c.requires.at_lt_terms)); is = c.term_at.ensures ∙ ap (term_at c.args.table.now) (sym long) } }

pub advance-requires : goal.advance-requires
advance-requires c = record { well_formed = c.requires.well_formed; terms_value = c.requires.terms_value; at_le_terms = (omega (arith, c.requires.at_lt_terms), simp length-set c.requires.at_lt_terms.1) }

pub shape_of-work : goal.shape_of-work
shape_of-work c = c.advance.auto.work ∙ length-set c.args.work.now c.args.turn.at c.number-value.result

pub returns : goal.returns
returns c =
    let value = c.number-value.ensures ∙ ap (λ (x : Term). number_of c.args.table.now c.args.values.now (take c.args.turn.at c.args.work.now) x c.args.answer) c.term_at.ensures in
    record { value = c.advance.ensures.value; work_after = c.advance.ensures.work_after ∙ ap (λ (v : ℕ). onward c.args.table.now (numbered c.args.table.now c.args.values.now 0) c.args.terms (set c.args.work.now c.args.turn.at v) (c.args.turn.at + 1)) value }
