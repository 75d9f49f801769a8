-- What is known to stand in the tables before it is read.
use Rattle.std.specs.Prelude.{List, ℕ, ◌<◌, ◌/◌, ℤ, length}
use Rattle.subdivision.specs.Sheet.{edge_west, edge_east}

-- edge e is there, and so are both of its vertices
abbrev pub EndsKnown : List ℤ → List ℕ → ℕ → Type 0
EndsKnown vertices edges e =
    (e < length edges / 4) × ((edge_west edges e < length vertices / 2) × (edge_east edges e < length vertices / 2))
