-- The lowest bit of 0 is 0, and that of any other number is what it has beyond what it shares with the number below.
use Rattle.std.proofs.Common.{arith}
use Rattle.theory.proofs.Blocks.{low_bit_le, low_bit_and}
use Rattle.numbers.proofs.dyadic.low_bit.Goals as goal

pub returns-then-k-eq0 : goal.returns-then-k-eq0
returns-then-k-eq0 c = omega (arith, low_bit_le c.args.k)

pub returns : goal.returns
returns c = omega (arith, low_bit_and c.args.k (omega arith))
