-- One scale for the heights of a sheet's edges: each height, multiplied by the other edges' widths, is a natural number, and order on a line is order of numbers.
use mathlib.Core.Bool.{true, false}
use mathlib.Core.Path.{◌≡◌}
use mathlib.Core.Logic.{◌↔◌}
use Prim.Native.Nat.{ℕ, zero, suc, ◌*◌, ◌<◌, ◌≤◌}
use lib.Dec.{eqb}
use Rattle.subdivision.specs.Sheet.{Sheet, edge_count, x_of, y_of, west_of, east_of, segment}
use Rattle.subdivision.specs.Lines.{width, height, point_part, edge_part}
use Rattle.subdivision.specs.Accepted.{Lower}

module _ (s : Sheet) where
  -- the widths of the first so many edges, multiplied
  abbrev pub widths : ℕ → ℕ
  widths zero = 1
  widths (suc k) = width (segment s k) * widths k

  -- the same without the width of edge e
  abbrev pub widths_but : ℕ → ℕ → ℕ
  widths_but e zero = 1
  widths_but e (suc k) = elim (eqb k e) [ true ↦ widths_but e k | false ↦ width (segment s k) * widths_but e k ]

  -- the common scale of the sheet
  unfoldable pub unit : ℕ
  unit = widths (edge_count s)

  -- what brings a height of edge e to the common scale
  unfoldable pub share : ℕ → ℕ
  share e = widths_but e (edge_count s)

  -- the height of edge e on the doubled line c, to the common scale and doubled
  unfoldable pub scaled : ℕ → ℕ → ℕ
  scaled c e = height c (segment s e) * share e

  -- the ordinate y to the same scale
  unfoldable pub level : ℕ → ℕ
  level y = y * (2 * unit)

  -- the common scale keeps order: what is used of it
  pub record OneScale : Type 0 where
    pub lower_less : (c e f : ℕ) → e < edge_count s → f < edge_count s → Lower c (segment s e) (segment s f) ↔ (scaled c e < scaled c f)
    pub under_level : (e x y : ℕ) → e < edge_count s → (edge_part (segment s e) x < point_part (segment s e) y) ↔ (scaled (2 * x) e < level y)
    pub over_level : (e x y : ℕ) → e < edge_count s → (point_part (segment s e) y < edge_part (segment s e) x) ↔ (level y < scaled (2 * x) e)
    pub on_level : (e x y : ℕ) → e < edge_count s → (point_part (segment s e) y ≡ edge_part (segment s e) x) ↔ (scaled (2 * x) e ≡ level y)
    pub western_end : (e : ℕ) → e < edge_count s → scaled (2 * x_of s (west_of s e)) e ≡ level (y_of s (west_of s e))
    pub eastern_end : (e : ℕ) → e < edge_count s → scaled (2 * x_of s (east_of s e)) e ≡ level (y_of s (east_of s e))
    pub level_less : (y z : ℕ) → (y < z) ↔ (level y < level z)
    pub level_same : (y z : ℕ) → level y ≡ level z → y ≡ z
    -- no height is above a level that both ends are at most at
    pub scaled_at_most : (c e y : ℕ) → e < edge_count s → 2 * x_of s (west_of s e) ≤ c → c ≤ 2 * x_of s (east_of s e) → y_of s (west_of s e) ≤ y → y_of s (east_of s e) ≤ y → scaled c e ≤ level y
