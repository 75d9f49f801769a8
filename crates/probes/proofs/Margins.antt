-- A shifted margin and the signed number that is shifted to it.
use mathlib.Core.Path.{◌≡◌, ap}
use Prim.Native.Nat.{◌+◌, ◌-◌, ◌<◌, ◌≤◌}
use native.Mathlib.Omega.{arith}
use borrow.Author.Tests.{le-leb, lt-leb}
use lib.IntN.{ℤ, pos, negsuc}
use Rattle.subdivision.specs.Limits.{origin}
use Rattle.subdivision.specs.Sheet.{shifted}
use Rattle.theory.proofs.Shift.{Signed32}
use Rattle.probes.specs.Margins.{unshifted}

pub unshifted_shifted : (z : ℤ) → Signed32 z → unshifted (shifted z) ≡ z
unshifted_shifted (pos n) h =
    let above : origin ≤ origin + n = omega arith in
    let rest : origin + n - origin ≡ n = omega arith in
    rw (le-leb origin (origin + n) above, unshifted) (ap pos rest)
unshifted_shifted (negsuc n) h =
    let below : origin - (n + 1) < origin = omega arith in
    let rest : origin - (origin - (n + 1) + 1) ≡ n = omega arith in
    rw (lt-leb origin (origin - (n + 1)) below, unshifted) (ap negsuc rest)
