-- A sheet is refused by 16 alone.
-- Assumes nothing.
use mathlib.Core.Path.{refl}
use mathlib.Core.Bool.{Bool, true, false, cond}
use mathlib.Core.List.{List}
use Prim.Native.Nat.{ℕ, zero, suc, ◌%◌}
use Prim.{tt}
use lib.Dec.{eqb}
use lib.ListN.{length}
use Rattle.table.specs.Faults.{refuse_unless}
use Rattle.table.specs.Admission.{refused, refused_by, scan}
use Rattle.sheets.specs.Marks.{line_at, line_count}
use Rattle.sheets.specs.Check.{sound, line_fault, uncut, sheet_check}
use Rattle.sheets.specs.Laws.{RefusedBy16, SheetNumbers}
use Rattle.table.specs.Answers.{accepted}

uncut_by : (sheet : List ℕ) → RefusedBy16 (uncut sheet)
uncut_by sheet = go (eqb (length sheet % 3) 0)
  where
    go : (b : Bool) → RefusedBy16 (cond b accepted (refused 16 (line_count sheet)))
    go true = tt
    go false = refl

lines_by : (sheet : List ℕ) (left at : ℕ) → RefusedBy16 (scan (λ k. line_fault (line_at sheet k)) left at (uncut sheet))
unfolding scan
lines_by sheet zero at = uncut_by sheet
lines_by sheet (suc left) at = go (sound (line_at sheet at)) (lines_by sheet left (suc at))
  where
    go : (b : Bool) → RefusedBy16 (scan (λ k. line_fault (line_at sheet k)) left (suc at) (uncut sheet)) → RefusedBy16 (refused_by (refuse_unless 16 b 0) at (scan (λ k. line_fault (line_at sheet k)) left (suc at) (uncut sheet)))
    go true rest = rest
    go false rest = refl

pub sheet_numbers : SheetNumbers
unfolding sheet_check
sheet_numbers sheet = lines_by sheet (line_count sheet) 0
