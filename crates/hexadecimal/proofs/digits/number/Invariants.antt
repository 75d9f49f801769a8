-- The loop's invariant: the value is that of the digits read so far, below 16 to their number.
use mathlib.Core.Path.{◌≡◌}
use Prim.Native.Nat.{◌<◌, ◌^◌}
use Rattle.frames.specs.Digits.{number}
use Rattle.hexadecimal.proofs.digits.number.Given as goal

abbrev pub invariant-loop-i : goal.invariant-loop-i
invariant-loop-i l = (l.value ≡ number l.page l.at l.i) × (l.value < 16 ^ l.i)
