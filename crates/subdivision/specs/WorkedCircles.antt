-- The zone that refusal 13 names, in the cases of document 02's P4, computed from the definitions.
use Rattle.std.specs.Prelude.{◌≡◌, refl, true, false, [], ◌∷◌, ℕ, pos, negsuc}
use Rattle.std.specs.Prelude.{Ok, Err}
use Rattle.subdivision.specs.Results.{refused}
use Rattle.subdivision.specs.Formula.{holds}
use Rattle.subdivision.specs.Lowest.{lowest}
use Rattle.subdivision.specs.Lists.{tab}
use Rattle.subdivision.specs.Dyadic.{bits, top_bit, low_bit, lca}
use Rattle.subdivision.specs.Order.{in_order}
use Rattle.subdivision.specs.Sheet.{Sheet}
use Rattle.subdivision.specs.ZoneLine.{next_zone, zone_line, on_circle, above_circle}
use Rattle.subdivision.specs.Refusals.{names, judged}
use Rattle.subdivision.specs.Earlier.{earlier_circle_refusal, earlier_table_refusals}
use Rattle.subdivision.specs.Calls.{opening}
use Rattle.subdivision.specs.WorkedRefusals.{two_lenses}

-- a circle between 5 and 6 beneath zone 2: from bottom to top the zones 0, 1, 3 and 4, and two lenses with zone 2 above them, the left one
-- with zone 6 over zone 5 and the right one with zone 5 over zone 6
unfoldable pub beneath_two : Sheet
beneath_two =
    record { west = pos 0; east = pos 4; vertices = pos 0 ∷ pos 0 ∷ pos 2 ∷ pos 0 ∷ pos 4 ∷ pos 0 ∷ pos 1 ∷ pos 1 ∷ pos 1 ∷ negsuc 0 ∷ pos 3 ∷ pos 1 ∷ pos 3 ∷ negsuc 0 ∷ pos 0 ∷ negsuc 4 ∷ pos 4 ∷ negsuc 4 ∷ pos 0 ∷ negsuc 3 ∷ pos 4 ∷ negsuc 3 ∷ pos 0 ∷ negsuc 2 ∷ pos 4 ∷ negsuc 2 ∷ []; edges = 0 ∷ 3 ∷ 2 ∷ 6 ∷ 3 ∷ 1 ∷ 2 ∷ 6 ∷ 0 ∷ 4 ∷ 5 ∷ 4 ∷ 4 ∷ 1 ∷ 5 ∷ 4 ∷ 0 ∷ 1 ∷ 6 ∷ 5 ∷ 1 ∷ 5 ∷ 2 ∷ 5 ∷ 5 ∷ 2 ∷ 2 ∷ 5 ∷ 1 ∷ 6 ∷ 6 ∷ 4 ∷ 6 ∷ 2 ∷ 6 ∷ 4 ∷ 1 ∷ 2 ∷ 5 ∷ 6 ∷ 7 ∷ 8 ∷ 1 ∷ 0 ∷ 9 ∷ 10 ∷ 3 ∷ 1 ∷ 11 ∷ 12 ∷ 4 ∷ 3 ∷ []; zones = 7 }

-- the cases, whatever words w were lent
pub worked_circles :
    (w : ℕ → ℕ) →
    -- of the circle case of document 01, which still names zone 1 (`worked_refusals`), zones 1 and 2 are on the circle
    (tab (λ z. holds (on_circle (two_lenses 1 2) z)) 4 ≡ false ∷ true ∷ true ∷ false ∷ [])
    -- the circle between 5 and 6 beneath zone 2 names 5
    × (opening beneath_two (tab w 35) ≡ record { verdict = refused 13 5; index = tab w 35 })
    -- its zones on the circle are 5 and 6, of which 6 is the highest
    × (tab (λ z. holds (on_circle beneath_two z)) 7 ≡ false ∷ false ∷ false ∷ false ∷ false ∷ true ∷ true ∷ [])
    -- zone 2 has the circle below it without being on it, and is what the line named before
    × (tab (λ z. holds (above_circle beneath_two z)) 7 ≡ false ∷ false ∷ true ∷ false ∷ false ∷ true ∷ true ∷ [])
    × (judged (earlier_table_refusals beneath_two) ≡ refused 13 2)
    × (names (earlier_circle_refusal (two_lenses 1 2)) ≡ 1)
unfolding two_lenses beneath_two opening next_zone zone_line in_order bits top_bit low_bit lca lowest tab
worked_circles w = (refl, refl, refl, refl, refl, refl)
