-- A wrong order of five vertices that breaks what is promised of it: by y first.
use Rattle.std.specs.Prelude.{◌≡◌, refl, [], ◌∷◌}
use Rattle.std.proofs.Common.{inl, inr, arith}
use Rattle.subdivision.specs.Lists.{tab}
use Rattle.subdivision.specs.Order.{in_order}
use Rattle.subdivision.specs.PointOrder.{PointBefore, ByPoint}
use Rattle.subdivision.specs.WorkedOrder.{five_points, by_height}

-- by y first it is another order
height_first : in_order by_height 5 ≡ 2 ∷ 4 ∷ 0 ∷ 3 ∷ 1 ∷ []
unfolding five_points in_order tab
height_first = refl

-- which is not by point: vertex 2 comes before vertex 4, and vertex 4 is west of it
pub height_first_breaks : ByPoint five_points (in_order by_height 5) → ⊥
unfolding five_points
height_first_breaks b = go (rw height_first at b 0 1 (omega arith) (omega arith))
  where
    go : PointBefore five_points 2 4 → ⊥
    go (inl p) = omega arith
    go (inr p) = omega arith
