use mathlib.Core.Path.{sym, ap, ◌∙◌}
use borrow.Author.Tests.{not-true}
use Rattle.ops.proofs.Booleans.{and_parts}
use Rattle.table.specs.Faults.{is_store, is_choice}
use Rattle.table.proofs.Sizes.{size-short}
use Rattle.admission.proofs.faults.short.Goals as goal

pub returns-then-is_store-is_choice : goal.returns-then-is_store-is_choice
returns-then-is_store-is_choice c =
    let neither = and_parts _ _ c.if-is_store-is_choice.true in
    sym
    (size-short c.args.table.now c.args.i
    (ap is_store (sym c.requires) ∙ sym c.is_store.ensures ∙ not-true _ neither.0)
    (ap is_choice (sym c.requires) ∙ sym c.is_choice.ensures ∙ not-true _ neither.1))

pub returns : goal.returns
returns c = rw c.size.ensures
