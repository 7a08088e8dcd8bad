use Rattle.smtlib.specs.Bytes.{bytes, place_in}
use Rattle.parser.proofs.Lists.{told_back}
use Rattle.parser.proofs.words.sort_named.Goals as goal

pub returns-then-eq : goal.returns-then-eq
unfolding place_in
returns-then-eq c =
    let w = c.args.word.now in
    rw (told_back w (bytes "Bool") c.eq.ensures c.as_slice.ensures c.if-eq.true)

pub returns-then-eq-2 : goal.returns-then-eq-2
unfolding place_in
returns-then-eq-2 c =
    let w = c.args.word.now in
    rw (
      told_back w (bytes "Bool") c.eq.ensures c.as_slice.ensures c.if-eq.false,
      told_back w (bytes "BitVec") c.eq-else-eq.ensures c.as_slice-else-eq.ensures c.if-eq-2.true,
    )

pub returns-then-eq-3 : goal.returns-then-eq-3
unfolding place_in
returns-then-eq-3 c =
    let w = c.args.word.now in
    rw (
      told_back w (bytes "Bool") c.eq.ensures c.as_slice.ensures c.if-eq.false,
      told_back w (bytes "BitVec") c.eq-else-eq.ensures c.as_slice-else-eq.ensures c.if-eq-2.false,
      told_back w (bytes "Array") c.eq-else-eq-2.ensures c.as_slice-else-eq-2.ensures c.if-eq-3.true,
    )

pub returns-else-eq-3 : goal.returns-else-eq-3
unfolding place_in
returns-else-eq-3 c =
    let w = c.args.word.now in
    rw (
      told_back w (bytes "Bool") c.eq.ensures c.as_slice.ensures c.if-eq.false,
      told_back w (bytes "BitVec") c.eq-else-eq.ensures c.as_slice-else-eq.ensures c.if-eq-2.false,
      told_back w (bytes "Array") c.eq-else-eq-2.ensures c.as_slice-else-eq-2.ensures c.if-eq-3.false,
    )
