use mathlib.Core.Path.{◌∙◌, ap}
use mathlib.Core.List.{List}
use Prim.Native.Nat.{ℕ}
use lib.ListN.{take}
use Rattle.std.proofs.lemmas.List.{take_min}
use Rattle.cases.specs.Places.{line_at}
use Rattle.cases.specs.Reading.{byte_limit}
use Rattle.outline.proofs.lines.line_of.Goals as goal

pub returns : goal.returns
returns c = c.line_at.ensures ∙ ap (λ (t : List ℕ). line_at t c.args.place) (ap (λ (k : ℕ). take k c.args.text.now) c.min.ensures ∙ take_min byte_limit c.args.text.now)
