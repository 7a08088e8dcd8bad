use Rattle.ops.proofs.Halves.{at_word}
use Rattle.ops.proofs.wrapping_product.Goals as goal

pub returns : goal.returns
returns c = rw (c.wrapping_add_u32.ensures.value, c.moved_up.ensures, c.product_of_halves-3.ensures, c.wrapping_add_u32-cross.ensures.value, c.product_of_halves-2.ensures, c.product_of_halves.ensures, c.high_half-yh.ensures, c.low_half-yl.ensures, c.high_half-xh.ensures, c.low_half-xl.ensures) (at_word c.args.x c.args.y)
