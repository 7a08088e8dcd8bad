use Prim.Native.Nat.{ℕ, ◌+◌, ◌-◌}
use mathlib.Core.Path.{◌≡◌, sym, ap, ◌∙◌}
use native.Mathlib.Omega.{arith}
use lib.ListN.{take, drop}
use lib.Seq.{length-take-le}
use Rattle.table.specs.declared.words.Term.{Term}
use Rattle.judge.specs.Code.Labelled.{read_labelled}
use Rattle.judge.proofs.terms.read_here.Goals as goal

pub slice_bounds-labelled_read-end : goal.slice_bounds-labelled_read-end
slice_bounds-labelled_read-end c = sym (length-take-le c.args.at c.args.room.now (omega (arith, c.requires.at_lt_terms)))

pub returns : goal.returns
returns c =
    let e : c.args.terms + c.args.at - c.args.terms ≡ c.args.at = omega arith in
    c.labelled_read.ensures
    ∙ ap (λ (n : ℕ). read_labelled c.args.table.now (take c.args.at c.args.room.now) (take n (drop c.args.terms c.args.room.now)) c.term_at-x.result c.args.array c.args.cells.now) e
    ∙ ap (λ (x : Term). read_labelled c.args.table.now (take c.args.at c.args.room.now) (take c.args.at (drop c.args.terms c.args.room.now)) x c.args.array c.args.cells.now) c.term_at-x.ensures
