-- What is asked of the edges in which circles are looked for.
use Rattle.std.specs.Prelude.{List, ℕ, ◌/◌, ◌<◌, length}
use Rattle.subdivision.specs.Sheet.{edge_above}

-- every edge names a zone above that exists
abbrev pub NamedAbove : List ℕ → ℕ → Type 0
NamedAbove edges zones = (e : ℕ) → e < length edges / 4 → edge_above edges e < zones
