-- What functions over numbers say of statuses and commands is what those over these say.
-- Assumes nothing.
use Rattle.std.proofs.Common.{◌≡◌, ℕ, Bool, true, false, cond, not, ◌&&◌, ◌||◌, ◌==◌, ◌+◌, ◌-◌, ◌^◌, min, sym, refl, ap₂, ◌∙◌, eqb-true}
use Rattle.std.specs.Prelude.{Some, None, nat_lt}
use Rattle.request.specs.declared.status.Status.{Status}
use Rattle.request.specs.declared.status.Status.TheVariants.{Done, Fails, Error, Refused, Broken, Short, Closed}
use Rattle.request.specs.declared.arguments.Command.TheVariants.{Judge, Explain, Evaluate, Tree, Graph, Finish, Print, PrintFinished}
use Rattle.request.specs.declared.arguments.Options.{Options}
use Rattle.request.specs.Arguments as Commands
use Rattle.request.specs.Status as Statuses
use Rattle.request.specs.Numbers.{rank, worse, broken, answered, fitting}
use Rattle.request.specs.Laws.{status_number, StatusesByNumber, AfterByNumber, FittingByNumber, CrowdedByNumber}

same_rank : (s : Status) → rank (status_number s) ≡ Statuses.rank s
same_rank Done = refl
same_rank Fails = refl
same_rank Error = refl
same_rank Refused = refl
same_rank Broken = refl
same_rank Short = refl
same_rank Closed = refl

picked : (test : Bool) (a b : Status) → cond test (status_number b) (status_number a) ≡ status_number (cond test b a)
picked true a b = refl
picked false a b = refl

worse_number : (a b : Status) → worse (status_number a) (status_number b) ≡ status_number (Statuses.worse a b)
worse_number a b =
    ap₂ (λ (x y : ℕ). cond (nat_lt x y) (status_number b) (status_number a)) (same_rank a) (same_rank b)
    ∙ picked (nat_lt (Statuses.rank a) (Statuses.rank b)) a b

broken_number : (s : Status) → broken (status_number s) ≡ Statuses.broken s
broken_number Done = refl
broken_number Fails = refl
broken_number Error = refl
broken_number Refused = refl
broken_number Broken = refl
broken_number Short = refl
broken_number Closed = refl

told_number : (s : Status) → answered (status_number s) ≡ status_number (Statuses.answered s)
told_number Done = refl
told_number Fails = refl
told_number Error = refl
told_number Refused = refl
told_number Broken = refl
told_number Short = refl
told_number Closed = refl

pub statuses_by_number : (a b : Status) → StatusesByNumber a b
statuses_by_number a b = record { worse = worse_number a b; broken = broken_number a; told = told_number a }

one_more_number : (s : Status) (n : ℕ) → cond (status_number s == 2) n (min (n + 1) (2 ^ 32 - 1)) ≡ Statuses.one_more s n
one_more_number Done n = refl
one_more_number Fails n = refl
one_more_number Error n = refl
one_more_number Refused n = refl
one_more_number Broken n = refl
one_more_number Short n = refl
one_more_number Closed n = refl

pub after_by_number : AfterByNumber
after_by_number run answer =
    ap₂ (λ (s n : ℕ). record { status = s; answers = n; ended = run.ended; paired = answer.paired })
    (worse_number run.status answer.status) (one_more_number answer.status run.answers)

pub crowded_by_number : CrowdedByNumber
crowded_by_number Judge files = refl
crowded_by_number Explain files = refl
crowded_by_number Evaluate files = refl
crowded_by_number Tree files = refl
crowded_by_number Graph files = refl
crowded_by_number Finish files = refl
crowded_by_number Print files = refl
crowded_by_number PrintFinished files = refl

-- a test that no zero meets says that a number is not zero
some : (n : ℕ) (test zero : Bool) → zero ≡ (n == 0) → (n ≡ 0 → test ≡ false) → (test && not zero) ≡ test
some n true true e h = sym (h (eqb-true n 0 (sym e)))
some n false true e h = refl
some n true false e h = refl
some n false false e h = refl

one_or_two : (n : ℕ) → n ≡ 0 → (n == 1 || n == 2) ≡ false
one_or_two n e = rw e refl

one : (n : ℕ) → n ≡ 0 → (n == 1 || false) ≡ false
one n e = rw e refl

or_nothing : (b : Bool) → (b || false) ≡ b
or_nothing true = refl
or_nothing false = refl

and_joined : (a b c : Bool) → ((a && b) && c) ≡ (a && (b && c))
and_joined true b c = refl
and_joined false b c = refl

or_joined : (a b c : Bool) → ((a || b) || c) ≡ (a || (b || c))
or_joined true b c = refl
or_joined false b c = refl

module _ (o : Options) (first second draws most some_file takes : Bool) (files : (most && some_file) ≡ takes) where
  abbrev known : Bool
  known = not o.unknown

  abbrev plain : Bool
  plain = not (o.color || o.plain) || draws

  fitted : (((known && ((not o.json || first) || second)) && plain) && most) && some_file ≡ (((known && (not o.json || (first || second))) && plain) && takes)
  fitted =
      and_joined ((known && ((not o.json || first) || second)) && plain) most some_file
      ∙ ap₂ (λ (x y : Bool). ((known && x) && plain) && y) (or_joined (not o.json) first second) files

one_or_two_files : (o : Options) → fitting 5 o ≡ Commands.fitting (Some Graph) o
one_or_two_files o =
    fitted o false false false (o.files == 1 || o.files == 2) (not (o.files == 0)) (o.files == 1 || o.files == 2)
    (some o.files (o.files == 1 || o.files == 2) (o.files == 0) refl (one_or_two o.files))

one_file : (o : Options) → fitting 7 o ≡ Commands.fitting (Some Print) o
one_file o =
    fitted o false false false (o.files == 1 || false) (not (o.files == 0)) (o.files == 1)
    (some o.files (o.files == 1 || false) (o.files == 0) refl (one o.files) ∙ or_nothing (o.files == 1))

pub fitting_by_number : FittingByNumber
fitting_by_number None o = refl
fitting_by_number (Some Judge) o = fitted o true false false true (not (o.files == 0)) (not (o.files == 0)) refl
fitting_by_number (Some Explain) o = fitted o false true false true (not (o.files == 0)) (not (o.files == 0)) refl
fitting_by_number (Some Evaluate) o = fitted o false false false true (not (o.files == 0)) (not (o.files == 0)) refl
fitting_by_number (Some Tree) o = fitted o false false true true (not (o.files == 0)) (not (o.files == 0)) refl
fitting_by_number (Some Graph) o = one_or_two_files o
fitting_by_number (Some Finish) o = one_or_two_files o
fitting_by_number (Some Print) o = one_file o
fitting_by_number (Some PrintFinished) o = one_file o
