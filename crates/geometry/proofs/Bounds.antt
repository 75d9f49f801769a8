-- The parts of the side test in range: a coordinate by a width, and two coordinates by the two pieces of a width.
use mathlib.Core.Path.{◌≡◌}
use Prim.Native.Nat.{ℕ, ◌+◌, ◌*◌, ◌-◌, ◌≤◌}
use native.Mathlib.Nat.{mul-le-mul_right}
use native.Mathlib.Omega.{arith}
use Rattle.subdivision.specs.declared.Segment.{Segment}
use Rattle.subdivision.specs.Limits.{reach, highest_coordinate}
use Rattle.subdivision.specs.Lines.{point_part, edge_part}
use Rattle.geometry.specs.Bounds.{largest_part, PartsBounded}

-- two coordinates by numbers that come to no more than the widest edge
products_bounded : (a b u v : ℕ) → a ≤ highest_coordinate → b ≤ highest_coordinate → u + v ≤ 2 * reach → a * u + b * v ≤ largest_part
products_bounded a b u v h k w =
    let p : a * u ≤ highest_coordinate * u = mul-le-mul_right u h in
    let q : b * v ≤ highest_coordinate * v = mul-le-mul_right v k in
    omega arith

pub parts_bounded : (g : Segment) (x y point edge : ℕ) → point ≡ point_part g y → edge ≡ edge_part g x → PartsBounded g x y point edge
parts_bounded g x y point edge p e ends inx iny =
    (omega (arith, p, products_bounded y y (g.xe - g.xw) 0 iny.1 iny.1 (omega (arith, ends.0.0.0, ends.0.1.1))), omega (arith, e, products_bounded g.yw g.ye (g.xe - x) (x - g.xw) ends.1.0.1 ends.1.1.1 (omega (arith, ends.0.0.0, ends.0.1.1, inx.0, inx.1))))
