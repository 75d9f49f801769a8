-- `numbers::dyadic::bit_length` meets its contract. The loop's invariant: the count and the bit length of the rest make that of k.
-- The measure is the rest. Assumes nothing.
use mathlib.Core.Path.{◌≡◌}
use Prim.Native.Nat.{◌+◌}
use Rattle.subdivision.specs.Dyadic.{bits}
use Rattle.numbers.proofs.dyadic.bit_length.Given as goal

abbrev pub invariant-loop-rest : goal.invariant-loop-rest
invariant-loop-rest l = l.count + bits l.rest ≡ bits l.k

abbrev pub decreases-loop-rest : goal.decreases-loop-rest
decreases-loop-rest l = l.rest
