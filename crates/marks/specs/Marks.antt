-- Marks for what the edges name: a flag for each vertex, or for each zone.
use Rattle.std.specs.Prelude.{Bool, true, false, List, ℕ, ◌+◌, ◌*◌, length, get_or}
use Rattle.subdivision.specs.Formula.{Formula, is_equal, some_below, holds}
use Rattle.subdivision.specs.Lists.{tab}
use Rattle.marks.specs.declared.marking.Word.{Word}
use Rattle.marks.specs.declared.marking.Word.TheVariants.{WesternVertex, EasternVertex, ZoneAbove, ZoneBelow}

-- the place of a word among an edge's four
abbrev pub place : Word → ℕ
place WesternVertex = 0
place EasternVertex = 1
place ZoneAbove = 2
place ZoneBelow = 3

-- one of the first m edges has v as its word `at`: 0 the western vertex, 1 the eastern one, 2 the zone above, 3 the zone below
abbrev pub named_at : List ℕ → ℕ → ℕ → ℕ → Formula
named_at edges at m v = some_below m (λ e. is_equal (get_or edges (4 * e + at) 0) v)

-- marks, with those set that the first m edges name
unfoldable pub marked : List ℕ → ℕ → ℕ → List Bool → List Bool
marked edges at m marks =
    tab (λ v. elim (holds (named_at edges at m v)) [ true ↦ true | false ↦ get_or marks v false ]) (length marks)
