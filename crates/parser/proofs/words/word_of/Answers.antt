use borrow.Author.Tests.{lt-ltb, le-ltb}
use Rattle.smtlib.specs.Bytes.{bytes, is_in, place_in}
use Rattle.parser.specs.Words.{keywords, keyword_at, word_of}
use Rattle.parser.proofs.Choices.{chosen_some, chosen_none}
use Rattle.parser.proofs.Lists.{told}
use Rattle.parser.proofs.words.word_of.Goals as goal

pub returns-in-Some : goal.returns-in-Some
unfolding word_of
returns-in-Some c = let k = chosen_some (is_in keywords c.args.word.now) c.in-Some.ensures in rw (k.0, k.1)

pub returns-then-op-gt0 : goal.returns-then-op-gt0
unfolding word_of
returns-then-op-gt0 c =
    rw (
      c.operator_of-op.ensures,
      chosen_none (is_in keywords c.args.word.now) (keyword_at (place_in keywords c.args.word.now)) c.in_default.ensures,
      lt-ltb _ _ (rw c.operator_of-op.ensures at c.if-op-gt0.true),
    )

pub returns-then-eq : goal.returns-then-eq
unfolding word_of
returns-then-eq c =
    let w = c.args.word.now in
    rw (
      chosen_none (is_in keywords w) (keyword_at (place_in keywords w)) c.in_default.ensures,
      le-ltb _ _ (rw c.operator_of-op.ensures at c.if-op-gt0.false),
      told w (bytes "true") c.eq.ensures c.as_slice.ensures c.if-eq.true,
    )

pub returns-then-eq-2 : goal.returns-then-eq-2
unfolding word_of
returns-then-eq-2 c =
    let w = c.args.word.now in
    rw (
      chosen_none (is_in keywords w) (keyword_at (place_in keywords w)) c.in_default.ensures,
      le-ltb _ _ (rw c.operator_of-op.ensures at c.if-op-gt0.false),
      told w (bytes "true") c.eq.ensures c.as_slice.ensures c.if-eq.false,
      told w (bytes "false") c.eq-2.ensures c.as_slice-2.ensures c.if-eq-2.true,
    )

pub returns : goal.returns
unfolding word_of
returns c =
    let w = c.args.word.now in
    rw (
      c.plain_word.ensures,
      chosen_none (is_in keywords w) (keyword_at (place_in keywords w)) c.in_default.ensures,
      le-ltb _ _ (rw c.operator_of-op.ensures at c.if-op-gt0.false),
      told w (bytes "true") c.eq.ensures c.as_slice.ensures c.if-eq.false,
      told w (bytes "false") c.eq-2.ensures c.as_slice-2.ensures c.if-eq-2.false,
    )
