-- A step takes one bit off the rest, and the bits of k are 32 at most.
use Rattle.std.proofs.Common.{arith}
use Rattle.theory.proofs.Dyadic.{bits_zero, bits_half, bits_le}
use Rattle.numbers.proofs.dyadic.bit_length.Goals as goal

pub overflow_add-count : goal.overflow_add-count
overflow_add-count c = omega (arith, bits_half c.loop-rest.rest (omega arith), bits_le 32 c.args.k (omega arith))

pub loop-rest-preserved : goal.loop-rest-preserved
loop-rest-preserved c = omega (arith, bits_half c.loop-rest.rest (omega arith))

pub returns : goal.returns
returns c = grind (arith, bits_zero, c.loop-rest.invariant)
