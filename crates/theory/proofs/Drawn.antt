-- A sheet that keeps rules 1 to 5 as edges in columns.
use Prim.Native.Nat.{◌+◌, ◌*◌}
use Rattle.subdivision.specs.Limits.{highest_coordinate}
use Rattle.subdivision.specs.Sheet.{Sheet, west_margin, east_margin, edge_count, x_of, west_of, east_of, above_of, below_of}
use Rattle.subdivision.specs.Accepted.{MarginsKept, Rule1, Rule2, Rule3, Rule4, Rule5, Accepted}
use Rattle.theory.proofs.Columns.{Drawing}
use Rattle.theory.proofs.Scale.{scaled, level}

-- the margins and rules 1 to 5
pub record Drawn (s : Sheet) : Type 0 where
  pub margins : MarginsKept s
  pub one : Rule1 s
  pub two : Rule2 s
  pub three : Rule3 s
  pub four : Rule4 s
  pub five : Rule5 s

-- an accepted sheet keeps them
pub accepted_drawn : (s : Sheet) → Accepted s → Drawn s
accepted_drawn s a = record { margins = a.margins; one = a.one; two = a.two; three = a.three; four = a.four; five = a.five }

-- the sheet's edges in columns, their heights to the common scale
abbrev pub drawing_of : Sheet → Drawing
drawing_of s =
    record { count = edge_count s; west = west_margin s; east = east_margin s; from = λ e. x_of s (west_of s e); to = λ e. x_of s (east_of s e); whole = λ x e. scaled s (2 * x) e; half = λ x e. scaled s (2 * x + 1) e; cap = level s highest_coordinate; above = above_of s; below = below_of s }
