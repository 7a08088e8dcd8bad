-- Statuses and commands by number: a status's is its place among the variants, from 0, a command's the same from 1, and
-- 0 is no command. Other numbers are taken as well.
-- Assumes nothing.
use Rattle.std.specs.Prelude.{ℕ, Bool, cond, not, ◌&&◌, ◌||◌, ◌+◌, ◌-◌, ◌^◌, min, ◌==◌, nat_le, nat_lt}
use Rattle.request.specs.declared.arguments.Options.{Options}
use Rattle.request.specs.declared.status.Answer.{Answer}
use Rattle.request.specs.declared.status.Run.{Run}

-- the order of badness: 0, 1, 3, 2, and last a failed write
abbrev pub rank : ℕ → ℕ
rank status = cond (status == 2) 4 (cond (status == 4) 5 status)

-- the worse of two
abbrev pub worse : ℕ → ℕ → ℕ
worse a b = cond (nat_lt (rank a) (rank b)) b a

-- whether a write has failed
abbrev pub broken : ℕ → Bool
broken status = status == 4 || status == 6

-- a failed write is an error
abbrev pub answered : ℕ → ℕ
answered status = cond (status == 4) 2 status

-- a run after a file that ended so: one file more is answered, but where it ended in an error; 2^32 - 1 stand for more
abbrev pub after : Run ℕ → Answer ℕ → Run ℕ
after run answer =
    record run {
      status = worse run.status answer.status;
      answers = cond (answer.status == 2) run.answers (min (run.answers + 1) (2 ^ 32 - 1));
      paired = answer.paired;
    }

-- whether a command takes these options and so many files: graph and finish take a rule and its setting too
abbrev pub fitting : ℕ → Options → Bool
fitting command o =
    not (command == 0)
    && not o.unknown
    && (not o.json || command == 1 || command == 2)
    && (not (o.color || o.plain) || command == 4)
    && (nat_lt command 5 || o.files == 1 || (nat_lt command 7 && o.files == 2))
    && not (o.files == 0)

-- whether there is a file too many for a command on a case
abbrev pub crowded : ℕ → ℕ → Bool
crowded command files = nat_le 5 command && nat_lt 1 files
