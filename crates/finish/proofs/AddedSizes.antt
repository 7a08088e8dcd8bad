-- How many terms are added.
-- Assumes nothing.
use mathlib.Core.Path.{◌≡◌}
use mathlib.Core.List.{List}
use Prim.Native.Nat.{ℕ, ◌+◌, ◌*◌, ◌≤◌}
use native.Mathlib.Nat.{le_refl}
use native.Mathlib.Omega.{arith}
use lib.ListN.{length, length-append}
use Rattle.table.specs.Terms.{terms}
use Rattle.table.specs.WellFormed.{WellFormed}
use Rattle.evaluate.specs.Steps.{steps}
use Rattle.sheets.specs.Marks.{own_marks}
use Rattle.groups.specs.Sizes.{sizes}
use Rattle.groups.proofs.GroupSizes.{groups-size, sizes_by_steps, sizes_by_terms}
use Rattle.finish.specs.Finished.{added}
use Rattle.finish.specs.Laws.{AddedFew}

-- T, F and the last besides the groups
pub added-size : (w : List ℕ) → WellFormed 512 w → length (added w) ≡ sizes w (terms w) + 3
added-size w f =
    rw (length-append, groups-size w own_marks f (terms w) (le_refl (terms w))) (omega arith)

pub added-few : AddedFew
added-few w f =
    let count : length (added w) ≡ sizes w (terms w) + 3 = added-size w f in
    let by_steps : sizes w (terms w) ≤ 9 * terms w + 9 * steps w (terms w) = sizes_by_steps w f (terms w) (le_refl (terms w)) in
    let by_terms : sizes w (terms w) ≤ 145 * terms w = sizes_by_terms w f (terms w) (le_refl (terms w)) in
    record { by_steps = omega arith; by_terms = omega arith }
