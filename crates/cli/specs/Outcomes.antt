-- What the work of a command comes to, and the status that it ends with.
-- Assumes nothing.
use Rattle.std.specs.Prelude.{ℕ, cond, not, ◌&&◌, List, ◌==◌, Result, Ok, Err}
use Rattle.table.specs.declared.Refusal.{Refusal}
use Rattle.evaluate.specs.Evaluation.{Evaluation, evaluation}
use Rattle.judge.specs.Judgement.{Judgement, judgement, passes}
use Rattle.finish.specs.Finished.{Finishing, finished, finishing}
use Rattle.printer.specs.Printing.{Printing, printing}
use Rattle.request.specs.declared.arguments.Command.{Command}
use Rattle.request.specs.declared.arguments.Command.TheVariants.{Evaluate, Finish, PrintFinished}
use Rattle.request.specs.Arguments.{telling}
use Rattle.request.specs.declared.status.Status.{Status}
use Rattle.request.specs.declared.status.Status.TheVariants.{Done, Fails, Refused, Short}
use Rattle.cli.specs.declared.answers.Work.{Work}
use Rattle.cli.specs.declared.answers.Work.TheVariants.{Judged, Evaluated, Finished}

abbrev pub of_judgement : Judgement → Result Work Refusal
of_judgement (Ok v) = Ok (Judged v)
of_judgement (Err r) = Err r

abbrev pub of_evaluation : Evaluation → Result Work Refusal
of_evaluation (Ok s) = Ok (Evaluated s)
of_evaluation (Err r) = Err r

abbrev pub of_finishing : Finishing → Result Work Refusal
of_finishing (Ok e) = Ok (Finished e)
of_finishing (Err r) = Err r

-- finish finishes, evaluate evaluates, and every other command judges under the sheet, in a room of so many numbers
abbrev pub outcome : Command → List ℕ → List ℕ → List ℕ → List ℕ → ℕ → ℕ → Result Work Refusal
outcome Finish w sheet values cells allowance room = of_finishing (finishing w room)
outcome Evaluate w sheet values cells allowance room = of_evaluation (evaluation w values cells allowance room)
outcome _ w sheet values cells allowance room = of_judgement (judgement w sheet values cells allowance room)

-- a refusal; 21 says that the room was short, and another is to be tried
abbrev pub refused_status : Refusal → Status
refused_status r = cond (r.number == 21) Short Refused

-- judge and explain end well just where the setting passes; other commands have done their work
abbrev pub status_of : Command → Result Work Refusal → Status
status_of command (Ok (Judged v)) = cond (telling command && not (passes v)) Fails Done
status_of command (Ok _) = Done
status_of command (Err r) = refused_status r

-- a finished table is printed, a refusal stands
abbrev pub then_printed : Finishing → List ℕ → ℕ → Printing
then_printed (Ok e) w text = printing (finished w) text
then_printed (Err r) w text = Err r

-- print-finished finishes a table, in a room of so many numbers, and prints that; print prints it as it is
abbrev pub printing_of : Command → List ℕ → ℕ → ℕ → Printing
printing_of PrintFinished w room text = then_printed (finishing w room) w text
printing_of _ w room text = printing w text

-- a text, or a refusal; 21 and 24 say that a room was short, and another is to be tried
abbrev pub printed_status : Printing → Status
printed_status (Ok n) = Done
printed_status (Err r) = cond (r.number == 24) Short (refused_status r)
