use Prim.Native.Nat.{ℕ, ◌+◌, ◌-◌}
use mathlib.Core.Path.{◌≡◌, sym, ap, ◌∙◌}
use native.Mathlib.Omega.{arith}
use lib.ListN.{take, drop}
use lib.Seq.{length-take-le}
use Rattle.judge.specs.Code.Turns.{asks_first}
use Rattle.judge.proofs.turns.turn_here.Goals as goal

pub slice_bounds-turn_at-end : goal.slice_bounds-turn_at-end
slice_bounds-turn_at-end c = sym (length-take-le c.args.at c.args.room.now (omega (arith, c.requires.at_le_terms)))

pub returns : goal.returns
returns c =
    let e : c.args.terms + c.args.at - c.args.terms ≡ c.args.at = omega arith in
    c.turn_at.ensures ∙ ap (λ (n : ℕ). asks_first c.args.table.now c.args.values.now c.args.count c.args.terms (take c.args.at c.args.room.now) (take n (drop c.args.terms c.args.room.now)) c.args.at) e
