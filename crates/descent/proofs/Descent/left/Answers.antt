-- The lowest bit of a number is not above it.
use Rattle.std.proofs.Common.{arith}
use Rattle.theory.proofs.Blocks.{low_bit_le}
use Rattle.descent.proofs.Descent.left.Goals as goal

pub overflow_sub-result : goal.overflow_sub-result
overflow_sub-result c = omega (arith, low_bit_le c.args.self.k)
