use Rattle.smtlib.specs.Writing.{page}
use Rattle.smtlib.proofs.Pages.{Writing}
use Rattle.smtlib.proofs.bytes.word.Given as goal

abbrev pub invariant-loop-b : goal.invariant-loop-b
invariant-loop-b l = Writing l.w (page l.initial.room l.at) (page l.room l.to) l.b-index
