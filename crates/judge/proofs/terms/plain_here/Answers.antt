use Prim.Native.Nat.{ℕ, ◌+◌, ◌-◌, ◌<◌}
use mathlib.Core.Path.{◌≡◌, sym, ap, subst, ◌∙◌}
use native.Mathlib.Omega.{arith}
use lib.ListN.{length, take, drop, length-drop}
use lib.Seq.{length-take-le}
use Rattle.table.specs.declared.words.Term.{Term}
use Rattle.table.specs.Terms.{terms, term_at}
use Rattle.table.specs.Faults.{is_read}
use Rattle.evaluate.specs.Code.Turns.{Next}
use Rattle.sheets.specs.Code.Said.{marks_by}
use Rattle.judge.specs.Code.Labelled.{plain_labelled}
use Rattle.judge.proofs.terms.plain_here.Goals as goal

pub slice_bounds-plain-end : goal.slice_bounds-plain-end
slice_bounds-plain-end c = sym (length-take-le c.args.at c.args.room.now (omega (arith, c.requires.at_lt_terms)))

pub plain-requires : goal.plain-requires
plain-requires c =
    let front : length (take c.args.at c.args.room.now) ≡ c.args.at = length-take-le c.args.at c.args.room.now (omega (arith, c.requires.at_lt_terms)) in
    let e : c.args.terms + c.args.at - c.args.terms ≡ c.args.at = omega arith in
    let truths : length (take (c.args.terms + c.args.at - c.args.terms) (drop c.args.terms c.args.room.now)) ≡ c.args.terms + c.args.at - c.args.terms = length-take-le _ (drop c.args.terms c.args.room.now) (rw length-drop (omega (arith, c.requires.at_lt_terms))) in
    let next : Next c.args.table.now (take c.args.at c.args.room.now) c.term_at-x.result = record { inside = subst (λ (k : ℕ). k < terms c.args.table.now) (sym front) (omega (arith, c.requires.terms_value.0, c.requires.at_lt_terms)); is = c.term_at-x.ensures ∙ ap (term_at c.args.table.now) (sym front) } in
    record { well_formed = c.requires.well_formed; next = (next, ap (λ (y : Term). is_read y) c.term_at-x.ensures ∙ c.requires.terms_value.1); truths_len = truths ∙ e ∙ sym front }

pub returns : goal.returns
returns c =
    let e : c.args.terms + c.args.at - c.args.terms ≡ c.args.at = omega arith in
    c.plain.ensures
    ∙ ap (λ (n : ℕ). plain_labelled c.args.table.now (marks_by c.args.said.now) c.args.values.now (take c.args.at c.args.room.now) (take n (drop c.args.terms c.args.room.now)) c.term_at-x.result) e
    ∙ ap (λ (x : Term). plain_labelled c.args.table.now (marks_by c.args.said.now) c.args.values.now (take c.args.at c.args.room.now) (take c.args.at (drop c.args.terms c.args.room.now)) x) c.term_at-x.ensures
