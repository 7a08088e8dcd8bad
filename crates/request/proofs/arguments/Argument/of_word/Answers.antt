-- Each word of its arm is the word that the definition names.
use Rattle.std.proofs.Common.{◌≡◌, codes, refl, arith, rules}
use Rattle.std.proofs.lemmas.Slice.Eq.{text_from_reads}
use Rattle.request.proofs.arguments.Argument.of_word.Goals as goal

pub returns-in-45 : goal.returns-in-45
returns-in-45 c =
    let e : c.args.word.now ≡ codes "--json" = text_from_reads c.args.word.now (codes "--json") (omega arith) (search rules) in
    rw (c.if-ended.false, e) refl

pub returns-in-45-2 : goal.returns-in-45-2
returns-in-45-2 c =
    let e : c.args.word.now ≡ codes "--color" = text_from_reads c.args.word.now (codes "--color") (omega arith) (search rules) in
    rw (c.if-ended.false, e) refl

pub returns-in-45-3 : goal.returns-in-45-3
returns-in-45-3 c =
    let e : c.args.word.now ≡ codes "--no-color" = text_from_reads c.args.word.now (codes "--no-color") (omega arith) (search rules) in
    rw (c.if-ended.false, e) refl
