-- Covering, heights on a line, the side of a point, and two edges in conflict: document 01, "The plain reading of a point" and rule 4.
use Rattle.std.specs.Prelude.{true, false, ℕ, ◌+◌, ◌*◌, ◌-◌, min, max, ltb}
use Rattle.subdivision.specs.declared.Segment.{Segment}
use Rattle.subdivision.specs.declared.Side.{Side}
use Rattle.subdivision.specs.declared.Side.TheVariants.{Below, On, Above}
use Rattle.subdivision.specs.Formula.{Formula, is_less, is_at_most, is_equal, both, either, not_so}

-- an edge covers abscissa x when its western x <= x < its eastern x, and for x = E when its eastern x = E
abbrev pub covers : ℕ → Segment → ℕ → Formula
covers margin g x = either (both (is_at_most g.xw x) (is_less x g.xe)) (both (is_equal x margin) (is_equal g.xe margin))

-- the western reading's cover: western x < x <= eastern x
abbrev pub covers_west : Segment → ℕ → Formula
covers_west g x = both (is_less g.xw x) (is_at_most x g.xe)

-- the width xe - xw of an edge
abbrev pub width : Segment → ℕ
width g = g.xe - g.xw

-- the ordinate y of a point, multiplied by the width of an edge
abbrev pub point_part : Segment → ℕ → ℕ
point_part g y = y * width g

-- the height of an edge at the abscissa x, multiplied by its width
abbrev pub edge_part : Segment → ℕ → ℕ
edge_part g x = g.yw * (g.xe - x) + g.ye * (x - g.xw)

-- the point (x, y) is strictly above an edge that reaches x
abbrev pub is_above : Segment → ℕ → ℕ → Formula
is_above g x y = is_less (edge_part g x) (point_part g y)

-- the point (x, y) is strictly below an edge that reaches x
abbrev pub is_below : Segment → ℕ → ℕ → Formula
is_below g x y = is_less (point_part g y) (edge_part g x)

-- the point (x, y) lies on an edge, its ends included
abbrev pub is_on : Segment → ℕ → ℕ → Formula
is_on g x y = both (both (is_at_most g.xw x) (is_at_most x g.xe)) (is_equal (point_part g y) (edge_part g x))

-- a number against another, as a side
abbrev pub side_of : ℕ → ℕ → Side
side_of point edge = elim (ltb point edge) [ true ↦ Below | false ↦ elim (ltb edge point) [ true ↦ Above | false ↦ On ] ]

-- the side of the point (x, y) against an edge that reaches x: the sign of (xe-xw)(y-yw) - (ye-yw)(x-xw)
abbrev pub side_at : Segment → ℕ → ℕ → Side
side_at g x y = side_of (point_part g y) (edge_part g x)

-- the height of an edge on the doubled line c (2x is the abscissa x, 2x + 1 is x + 1/2), multiplied by its width and by two
abbrev pub height : ℕ → Segment → ℕ
height c g = g.yw * (2 * g.xe - c) + g.ye * (c - 2 * g.xw)

-- g is lower than h on the doubled line c: both heights multiplied out by the two widths
abbrev pub lower : ℕ → Segment → Segment → Formula
lower c g h = is_less (height c g * width h) (height c h * width g)

-- g and h are equally high on the doubled line c
abbrev pub level : ℕ → Segment → Segment → Formula
level c g h = is_equal (height c g * width h) (height c h * width g)

-- a of rule 4: the larger western x of two edges
abbrev pub overlap_west : Segment → Segment → ℕ
overlap_west g h = max g.xw h.xw

-- b of rule 4: the smaller eastern x of two edges
abbrev pub overlap_east : Segment → Segment → ℕ
overlap_east g h = min g.xe h.xe

-- the signs of (height of g less height of h) at the doubled lines c and d are opposite
abbrev pub opposite : ℕ → ℕ → Segment → Segment → Formula
opposite c d g h = either (both (lower c g h) (lower d h g)) (both (lower c h g) (lower d g h))

-- the overlap of two edges from a to b breaks rule 4: opposite signs at a and b, or both zero, or a zero at a without a common western vertex, or a zero at b without a common eastern one
abbrev pub conflict_on : ℕ → ℕ → Segment → Segment → Formula
conflict_on a b g h =
    either (opposite (2 * a) (2 * b) g h)
    (either (both (level (2 * a) g h) (level (2 * b) g h))
    (either (both (level (2 * a) g h) (not_so (is_equal g.west h.west)))
    (both (level (2 * b) g h) (not_so (is_equal g.east h.east)))))

-- rule 4 broken by two edges: they overlap, a < b, and the overlap breaks it
abbrev pub conflict : Segment → Segment → Formula
conflict g h = both (is_less (overlap_west g h) (overlap_east g h)) (conflict_on (overlap_west g h) (overlap_east g h) g h)
