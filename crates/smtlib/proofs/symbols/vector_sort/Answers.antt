use Rattle.smtlib.specs.Symbols.{vector_sort}
use Rattle.smtlib.proofs.Pages.{then}
use Rattle.smtlib.proofs.symbols.vector_sort.Goals as goal

pub returns : goal.returns
unfolding vector_sort
returns c = then c.word-a.ensures (then c.numeral-b.ensures c.word.ensures)
