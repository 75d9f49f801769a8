-- What the look for repeated points answers of any lent vertices.
use Rattle.std.specs.Prelude.{not, true, false, List, [], ℕ, ◌/◌, leb, ℤ, pos, length}
use Rattle.subdivision.specs.Limits.{max_vertices}
use Rattle.subdivision.specs.Formula.{holds}
use Rattle.subdivision.specs.Lowest.{lowest}
use Rattle.subdivision.specs.Sheet.{sheet_of}
use Rattle.subdivision.specs.Rules.{vertex_new}

-- the lowest of the vertices that breaks rule 1 as the same point as an earlier one, their number where none does; 2^32 - 1 where they are more than the limit
unfoldable pub repeat_among : List ℤ → ℕ
repeat_among vertices =
    elim (leb (length vertices / 2) max_vertices) [ true ↦ lowest (λ v. not (holds (vertex_new (sheet_of (pos 0) (pos 0) vertices [] 0) v))) (length vertices / 2) | false ↦ 4294967295 ]
