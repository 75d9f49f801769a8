-- Which of two edges is the higher on a line, and rule 4 read off the two ends of their overlap.
use Rattle.std.specs.Prelude.{Bool, true, false, not, ℕ, ◌*◌}
use Rattle.subdivision.specs.declared.Segment.{Segment}
use Rattle.subdivision.specs.declared.Side.{Side}
use Rattle.subdivision.specs.declared.Side.TheVariants.{Below, On, Above}
use Rattle.subdivision.specs.Formula.{Formula, is_less, both}
use Rattle.subdivision.specs.Lines.{width, height, side_of, lower, overlap_west, overlap_east}

-- the side of g on which h lies on the doubled line c
abbrev pub order_on : ℕ → Segment → Segment → Side
order_on c g h = side_of (height c h * width g) (height c g * width h)

-- the side of h on which g lies, from the side of g on which h lies
abbrev pub turned : Side → Side
turned Below = Above
turned On = On
turned Above = Below

-- rule 4 is broken, from the order at the western and at the eastern end of an overlap, a common western vertex (fork) and a common eastern one (meet)
abbrev pub broken : Side → Side → Bool → Bool → Bool
broken Below Below fork meet = false
broken Below On fork meet = not meet
broken Below Above fork meet = true
broken On Below fork meet = not fork
broken On On fork meet = true
broken On Above fork meet = not fork
broken Above Below fork meet = true
broken Above On fork meet = not meet
broken Above Above fork meet = false

-- two edges overlap, and g is lower than h at the eastern end of the overlap, or at its western end; beside a common western vertex the first, and beside a common eastern vertex the second, is the order of the two
abbrev pub lower_beside : Bool → Segment → Segment → Formula
lower_beside eastern g h =
    both (is_less (overlap_west g h) (overlap_east g h))
    (lower (2 * (elim eastern [ true ↦ overlap_east g h | false ↦ overlap_west g h ])) g h)

-- the side is above
abbrev pub is_up : Side → Bool
is_up Below = false
is_up On = false
is_up Above = true
