-- Sheets signed for before P5: what a sheet within the limits as they were keeps, by the calls' definitions under those limits.
use Rattle.std.specs.Prelude.{◌≡◌, refl, List, ◌⊎◌, ℕ, ◌<◌, ◌≤◌, ℤ}
use Rattle.subdivision.specs.Results.{Verdict, Reply, Search, refused, reply_of}
use Rattle.subdivision.specs.Limits.{Limits, earlier_limits, lowest_under, highest_under}
use Rattle.subdivision.specs.Formula.{Means}
use Rattle.subdivision.specs.Sheet.{Sheet, shifted, west_margin, east_margin, vertex_count, edge_count, zone_count, x_of, y_of}
use Rattle.subdivision.specs.Rules.{in_range_under}
use Rattle.subdivision.specs.Calls.{opening_under, reading_under, searching_under}

-- a shifted coordinate is in range, under limits
abbrev pub InRangeUnder : Limits → ℕ → Type 0
InRangeUnder l c = (lowest_under l ≤ c) × (c ≤ highest_under l)

pub in_range_says : (l : Limits) (c : ℕ) → Means (in_range_under l c) ≡ InRangeUnder l c
in_range_says l c = refl

-- a sheet is within limits: its counts, its margins, and each of its vertices
pub record Within (l : Limits) (s : Sheet) : Type 0 where
  pub vertices : vertex_count s ≤ l.vertices
  pub edges : edge_count s ≤ l.edges
  pub zones : zone_count s ≤ l.zones
  pub west : InRangeUnder l (west_margin s)
  pub east : InRangeUnder l (east_margin s)
  pub inside : (v : ℕ) → v < vertex_count s → InRangeUnder l (x_of s v) × InRangeUnder l (y_of s v)

-- an answer before was refusal 20, for a y beyond the range as it was
abbrev pub WasBeyond : ℤ → Reply → Type 0
WasBeyond y before = (InRangeUnder earlier_limits (shifted y) → ⊥) × (before ≡ refused 20 0)

module _ (s : Sheet) where
  -- opening a sheet within the limits as they were gives the verdict that it gave, and leaves the words that it left
  abbrev pub OpenedAsSigned : List ℕ → Verdict → List ℕ → Type 0
  OpenedAsSigned index verdict words =
      Within earlier_limits s
      → (verdict ≡ (opening_under earlier_limits s index).verdict) × (words ≡ (opening_under earlier_limits s index).index)

  -- on a sheet within the limits as they were the plain reading is what it was, unless the point was beyond the range
  abbrev pub ReadAsSigned : ℤ → ℤ → Reply → Type 0
  ReadAsSigned x y answer =
      Within earlier_limits s
      → (answer ≡ reading_under earlier_limits s x y) ⊎ WasBeyond y (reading_under earlier_limits s x y)

  -- over any index, and any trail, the quick search of such a sheet gives and leaves what it did, unless the point was beyond the range
  abbrev pub SearchedAsSigned : List ℕ → ℤ → ℤ → List ℕ → Search → List ℕ → Type 0
  SearchedAsSigned index x y trail found after =
      Within earlier_limits s
      → ((found ≡ (searching_under earlier_limits s index x y trail).found) × (after ≡ (searching_under earlier_limits s index x y trail).trail))
      ⊎ WasBeyond y (reply_of (searching_under earlier_limits s index x y trail).found)
