use Rattle.ops.proofs.Widths.{product_below}
use Rattle.ops.proofs.product_of_halves.Goals as goal

pub overflow_mul-result : goal.overflow_mul-result
overflow_mul-result c = record { fits = product_below 16 c.requires.0 c.requires.1 }
