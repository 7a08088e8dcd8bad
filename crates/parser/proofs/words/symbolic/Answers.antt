use Rattle.std.proofs.Common.{◌∙◌, sym}
use Rattle.smtlib.specs.Bytes.{bytes}
use Rattle.parser.proofs.Lists.{among_is}
use Rattle.parser.proofs.WordKinds.{symbolic_is}
use Rattle.parser.proofs.words.symbolic.Goals as goal

pub returns-else-is_ascii_alphanumeric : goal.returns-else-is_ascii_alphanumeric
returns-else-is_ascii_alphanumeric c =
    symbolic_is c.args.b (sym c.if-is_ascii_alphanumeric.false ∙ c.is_ascii_alphanumeric.ensures.value)
    (c.contains.ensures.value ∙ among_is c.args.b (bytes "~!@$%^&*_-+=<>.?/"))
