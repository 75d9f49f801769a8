-- How large the two parts of the side test become on a sheet: document 02, P5.
use Rattle.std.specs.Prelude.{◌≡◌, refl, ℕ, ◌*◌, ◌^◌, ◌<◌, ◌≤◌}
use Rattle.std.proofs.Common.{arith}
use Rattle.subdivision.specs.declared.Segment.{Segment}
use Rattle.subdivision.specs.Limits.{reach, highest_coordinate}
use Rattle.subdivision.specs.Accepted.{InRange}

-- the highest coordinate, shifted, by the width of the widest edge
abbrev pub largest_part : ℕ
largest_part = highest_coordinate * (2 * reach)

pub largest_part_is : largest_part ≡ 6294967296000000000
largest_part_is = refl

-- it leaves a bit of 64 free
pub largest_part_fits : largest_part < 2 ^ 63
largest_part_fits = omega arith

-- the ends of an edge are in range
abbrev pub EndsInRange : Segment → Type 0
EndsInRange g = (InRange g.xw × InRange g.xe) × (InRange g.yw × InRange g.ye)

-- the two parts of the side test of a point in range against an edge in range are at most so large
abbrev pub PartsBounded : Segment → ℕ → ℕ → ℕ → ℕ → Type 0
PartsBounded g x y point edge = EndsInRange g → InRange x → InRange y → (point ≤ largest_part) × (edge ≤ largest_part)
