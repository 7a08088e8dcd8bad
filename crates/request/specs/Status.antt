-- What the program ends with.
-- Assumes nothing.
use Rattle.std.specs.Prelude.{ℕ, Bool, true, false, cond, ◌-◌, ◌^◌, ◌+◌, min, nat_lt}
use Rattle.request.specs.declared.status.Status.{Status}
use Rattle.request.specs.declared.status.Status.TheVariants.{Done, Fails, Error, Refused, Broken, Short, Closed}
use Rattle.request.specs.declared.status.Answer.{Answer}
use Rattle.request.specs.declared.status.Run.{Run}

-- the order of badness: 0, 1, 3, 2, and last a failed write
abbrev pub rank : Status → ℕ
rank Done = 0
rank Fails = 1
rank Refused = 3
rank Error = 4
rank Broken = 5
rank Short = 5
rank Closed = 6

-- the worse of two
abbrev pub worse : Status → Status → Status
worse a b = cond (nat_lt (rank a) (rank b)) b a

-- whether a write has failed
abbrev pub broken : Status → Bool
broken Broken = true
broken Closed = true
broken _ = false

-- a failed write is an error
abbrev pub answered : Status → Status
answered Broken = Error
answered s = s

-- one file more is answered, but where it ended in an error; 2^32 - 1 stand for more than that
abbrev pub one_more : Status → ℕ → ℕ
one_more Error n = n
one_more _ n = min (n + 1) (2 ^ 32 - 1)

-- a run after a file that ended so
abbrev pub after : Run Status → Answer Status → Run Status
after run answer =
    record run { status = worse run.status answer.status; answers = one_more answer.status run.answers; paired = answer.paired }
