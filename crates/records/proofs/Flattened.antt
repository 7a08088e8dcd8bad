-- Both entrances give equal answers and leave equal rooms: a row of records is the cells laid flat.
-- Assumes nothing.
use mathlib.Core.Path.{◌≡◌, refl, sym, ap, ap₂, ◌∙◌}
use mathlib.Core.List.{List, [], ◌∷◌}
use Prim.Native.Nat.{ℕ, zero, suc, ◌+◌, ◌*◌, ◌%◌}
use native.Mathlib.Omega.{arith}
use lib.ListN.{length}
use Rattle.table.specs.Admission.{admission_within}
use Rattle.setting.specs.declared.cells.Cell.{Cell}
use Rattle.setting.specs.Cells as flat
use Rattle.setting.specs.Check as checks
use Rattle.setting.specs.Interpretation.{interpret}
use Rattle.evaluate.specs.Evaluation as evaluates
use Rattle.evaluate.proofs.UnusedSlots.{unused_unevaluated}
use Rattle.sheets.specs.Marks.{marks_under}
use Rattle.judge.specs.Judgement as judges
use Rattle.judge.proofs.Answers.{unused-unjudged}
use Rattle.records.specs.Rows.{record_at, look, flattened}
use Rattle.records.specs.Answers.{check, in_records, evaluation, judgement}
use Rattle.records.specs.Laws.{EqualAnswers, WholeRowsAreLaid, UnusedUnseen}

-- Of the cells laid flat: three numbers a cell
laid_length : (cells : List Cell) → length (flattened cells) ≡ length cells * 3
unfolding flattened
laid_length [] = refl
laid_length (c ∷ cells) = let e : length (flattened cells) ≡ length cells * 3 = laid_length cells in omega arith

-- cell k is that of the records, past the end too
laid_cell : (cells : List Cell) (k : ℕ) → flat.cell_at (flattened cells) k ≡ record_at cells k
unfolding flattened
laid_cell [] k = refl
laid_cell (c ∷ cells) zero = refl
laid_cell (c ∷ cells) (suc k) =
    let slot : suc k * 3 ≡ suc (suc (suc (k * 3))) = omega arith in
    let index : suc k * 3 + 1 ≡ suc (suc (suc (k * 3 + 1))) = omega arith in
    let value : suc k * 3 + 2 ≡ suc (suc (suc (k * 3 + 2))) = omega arith in
    rw (value, index, slot) (laid_cell cells k)

module _ (cells : List Cell) where
  laid_count : flat.cell_count (flattened cells) ≡ length cells
  laid_count = let e : length (flattened cells) ≡ length cells * 3 = laid_length cells in omega arith

  laid_cells : flat.cell_at (flattened cells) ≡ record_at cells
  laid_cells = λ i k. laid_cell cells k i

  laid_whole : length (flattened cells) % 3 ≡ 0
  laid_whole = let e : length (flattened cells) ≡ length cells * 3 = laid_length cells in omega arith

  pub laid_look : flat.look (flattened cells) ≡ look cells
  laid_look = λ i. flat.look_from (laid_cells i) (laid_count i) 0

  pub laid_interpret : (values : List ℕ) → interpret values (flat.look (flattened cells)) ≡ in_records values cells
  laid_interpret values = ap (interpret values) laid_look

  pub laid_check : (w values : List ℕ) → checks.check w values (flattened cells) ≡ check w values cells
  unfolding checks.check
  laid_check w values = rw laid_whole (λ i. checks.check_cells w values (laid_cells i) (laid_count i))

pub equal-evaluation : (w values : List ℕ) (cells : List Cell) (allowance room : ℕ) → evaluation w values cells allowance room ≡ evaluates.evaluation w values (flattened cells) allowance room
equal-evaluation w values cells allowance room = ap (λ c. evaluates.ready_by w (admission_within 80000 w) c 1 allowance room) (sym (laid_check cells w values))

pub equal-judgement : (w sheet values : List ℕ) (cells : List Cell) (allowance room : ℕ) → judgement w sheet values cells allowance room ≡ judges.judgement w sheet values (flattened cells) allowance room
equal-judgement w sheet values cells allowance room =
    ap₂ (λ c I. judges.verdict (evaluates.ready_by w (judges.admission_under w sheet) c 2 allowance room) w (marks_under sheet) I) (sym (laid_check cells w values)) (sym (laid_interpret cells values))

pub equal-answers : EqualAnswers
equal-answers w sheet values cells allowance room =
    let answer = equal-evaluation w values cells allowance (length room) in
    let verdict = equal-judgement w sheet values cells allowance (length room) in
    let setting = sym (laid_interpret cells values) in
    record {
      answer = answer;
      answer_room = λ i. evaluates.room_in (answer i) w (setting i) room;
      verdict = verdict;
      verdict_room = λ i. judges.room_in (verdict i) w (marks_under sheet) (setting i) room;
    }

-- Each row of whole cells is that of some records

pub whole_rows_are_laid : WholeRowsAreLaid
unfolding flattened
whole_rows_are_laid [] h = record { records = []; is = refl }
whole_rows_are_laid (a ∷ []) h = absurd (omega arith)
whole_rows_are_laid (a ∷ b ∷ []) h = absurd (omega arith)
whole_rows_are_laid (a ∷ b ∷ c ∷ cells) h =
    let rest = whole_rows_are_laid cells (omega arith) in
    record { records = record { slot = a; index = b; value = c } ∷ rest.records; is = ap (λ l. a ∷ b ∷ c ∷ l) rest.is }

-- Values of slots that no variable uses are not looked at

pub unused_unseen : UnusedUnseen
unused_unseen w sheet values values' cells allowance room one =
    let laid-first = equal-answers w sheet values cells allowance room in
    let laid-second = equal-answers w sheet values' cells allowance room in
    let evaluation = unused_unevaluated w values values' (flattened cells) allowance room one in
    let judgement = unused-unjudged w sheet values values' (flattened cells) allowance room one in
    record {
      answer = laid-first.answer ∙ evaluation.answer ∙ sym laid-second.answer;
      answer_room = laid-first.answer_room ∙ evaluation.left ∙ sym laid-second.answer_room;
      verdict = laid-first.verdict ∙ judgement.answer ∙ sym laid-second.verdict;
      verdict_room = laid-first.verdict_room ∙ judgement.left ∙ sym laid-second.verdict_room;
    }
