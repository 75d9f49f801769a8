-- The top bit is the power of two below the bit length.
use Rattle.std.proofs.Common.{arith}
use Rattle.theory.proofs.Dyadic.{bits_half, bits_le, top_bit_small, top_bit_le, top_bit_is_pow}
use Rattle.numbers.proofs.dyadic.top_bit.Goals as goal

pub overflow_sub-result : goal.overflow_sub-result
overflow_sub-result c = omega (arith, bits_half c.args.k (omega arith))

pub overflow_shl-result : goal.overflow_shl-result
overflow_shl-result c = omega (arith, bits_le 32 c.args.k (omega arith))

pub returns-then-k-eq0 : goal.returns-then-k-eq0
returns-then-k-eq0 c = omega (arith, top_bit_small c.args.k (omega arith))

pub returns-else-k-eq0 : goal.returns-else-k-eq0
returns-else-k-eq0 c =
    let k = c.args.k in
    rw c.bit_length.ensures (omega (arith, top_bit_le k, top_bit_is_pow k (omega arith)))
