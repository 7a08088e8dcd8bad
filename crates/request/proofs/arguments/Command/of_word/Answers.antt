-- Each word of its arm is the word that the definition names.
use Rattle.std.proofs.Common.{◌≡◌, codes, refl, arith, rules}
use Rattle.std.proofs.lemmas.Slice.Eq.{text_from_reads}
use Rattle.request.proofs.arguments.Command.of_word.Goals as goal

pub returns-in-finish : goal.returns-in-finish
returns-in-finish c =
    let e : c.args.word.now ≡ codes "finish" = text_from_reads c.args.word.now (codes "finish") (omega arith) (search rules) in
    rw e refl

pub returns-in-explain : goal.returns-in-explain
returns-in-explain c =
    let e : c.args.word.now ≡ codes "explain" = text_from_reads c.args.word.now (codes "explain") (omega arith) (search rules) in
    rw e refl

pub returns-in-evaluate : goal.returns-in-evaluate
returns-in-evaluate c =
    let e : c.args.word.now ≡ codes "evaluate" = text_from_reads c.args.word.now (codes "evaluate") (omega arith) (search rules) in
    rw e refl

pub returns-in-112 : goal.returns-in-112
returns-in-112 c =
    let e : c.args.word.now ≡ codes "print-finished" = text_from_reads c.args.word.now (codes "print-finished") (omega arith) (search rules) in
    rw e refl
