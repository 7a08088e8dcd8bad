-- What is proved of statuses and commands by number, as named statements: a function over numbers says of the number of a
-- status or a command what the one over these says. The proofs are in proofs/.
-- Assumes nothing.
use Rattle.std.specs.Prelude.{◌≡◌, ℕ, Option, Some, None}
use Rattle.request.specs.declared.status.Status.{Status}
use Rattle.request.specs.declared.status.Status.TheVariants.{Done, Fails, Error, Refused, Broken, Short, Closed}
use Rattle.request.specs.declared.arguments.Command.{Command}
use Rattle.request.specs.declared.arguments.Command.TheVariants.{Judge, Explain, Evaluate, Tree, Graph, Finish, Print, PrintFinished}
use Rattle.request.specs.declared.arguments.Options.{Options}
use Rattle.request.specs.declared.status.Answer.{Answer}
use Rattle.request.specs.declared.status.Run.{Run}
use Rattle.request.specs.Arguments as Commands
use Rattle.request.specs.Status as Statuses
use Rattle.request.specs.Numbers.{worse, broken, answered, after, fitting, crowded}

abbrev pub status_number : Status → ℕ
status_number Done = 0
status_number Fails = 1
status_number Error = 2
status_number Refused = 3
status_number Broken = 4
status_number Short = 5
status_number Closed = 6

abbrev pub run_number : Run Status → Run ℕ
run_number run = record { status = status_number run.status; answers = run.answers; ended = run.ended; paired = run.paired }

abbrev pub answer_number : Answer Status → Answer ℕ
answer_number answer = record { status = status_number answer.status; paired = answer.paired }

abbrev pub command_number : Command → ℕ
command_number Judge = 1
command_number Explain = 2
command_number Evaluate = 3
command_number Tree = 4
command_number Graph = 5
command_number Finish = 6
command_number Print = 7
command_number PrintFinished = 8

abbrev pub given_number : Option Command → ℕ
given_number None = 0
given_number (Some command) = command_number command

pub record StatusesByNumber (a b : Status) : Type 0 where
  pub worse : worse (status_number a) (status_number b) ≡ status_number (Statuses.worse a b)
  pub broken : broken (status_number a) ≡ Statuses.broken a
  pub told : answered (status_number a) ≡ status_number (Statuses.answered a)

abbrev pub AfterByNumber : Type 0
AfterByNumber = (run : Run Status) (answer : Answer Status) → after (run_number run) (answer_number answer) ≡ run_number (Statuses.after run answer)

abbrev pub FittingByNumber : Type 0
FittingByNumber = (command : Option Command) (o : Options) → fitting (given_number command) o ≡ Commands.fitting command o

abbrev pub CrowdedByNumber : Type 0
CrowdedByNumber = (command : Command) (files : ℕ) → crowded (command_number command) files ≡ Commands.crowded command files
