use Prim.Native.Nat.{ℕ, ◌<◌, ◌≤◌}
use mathlib.Core.Path.{subst, ◌∙◌}
use borrow.Author.Tests.{lt-ltb, le-ltb}
use Rattle.sheets.specs.Marks.{mark, line_count}
use Rattle.sheets.specs.Deciding.{first_of}
use Rattle.sheets.proofs.slots.deciding.Goals as goal

pub returns-then-marking-count : goal.returns-then-marking-count
returns-then-marking-count c =
    let found : first_of c.args.sheet.now mark c.args.slot < line_count c.args.sheet.now =
    subst (λ (n : ℕ). n < line_count c.args.sheet.now) c.first_of-marking.ensures (subst (λ (n : ℕ). c.first_of-marking.result < n) c.count.ensures c.if-marking-count.true) in
    c.first_of-marking.ensures ∙ rw (lt-ltb _ _ found)

pub returns : goal.returns
returns c =
    let none : line_count c.args.sheet.now ≤ first_of c.args.sheet.now mark c.args.slot =
    subst (λ (n : ℕ). line_count c.args.sheet.now ≤ n) c.first_of-marking.ensures (subst (λ (n : ℕ). n ≤ c.first_of-marking.result) c.count.ensures c.if-marking-count.false) in
    c.first_of.ensures ∙ rw (le-ltb _ _ none)
