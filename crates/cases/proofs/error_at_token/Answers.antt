use Rattle.std.proofs.Common.{false, arith}
use Rattle.cases.proofs.Ways.{back-most}
use Rattle.cases.proofs.error_at_token.Goals as goal

pub column_at-requires : goal.column_at-requires
column_at-requires c = let most = back-most false c.args.text.now c.args.fault.at in omega (arith, c.back_to-from.ensures, c.requires.text_len_bound, c.requires.at_in_bounds)
