-- What each zone still waits for while the line of rule 7 is made.
use Rattle.std.specs.Prelude.{Bool, true, false, List, [], ℕ, zero, suc, ◌-◌, min, eqb, pos, length, get_or}
use Rattle.subdivision.specs.Formula.{Formula, is_equal, both, not_so, holds}
use Rattle.subdivision.specs.Lists.{tab}
use Rattle.subdivision.specs.Sheet.{Sheet, sheet_of, edge_above, edge_below}
use Rattle.subdivision.specs.ZoneLine.{is_in}
use Rattle.theory.proofs.Groups.{pair_key}
use Rattle.theory.proofs.Tally.{tally}

-- the sheet of edges and a number of zones: the line asks for nothing else
abbrev pub zones_of : List ℕ → ℕ → Sheet
zones_of edges zones = sheet_of (pos 0) (pos 0) [] edges zones

-- the key by which the edges are sorted: the zone below
abbrev pub below_key : List ℕ → ℕ → ℕ
below_key edges e = pair_key (edge_below edges e) 0

-- edge e is under zone z
abbrev pub is_under : List ℕ → ℕ → ℕ → Bool
is_under edges z e = eqb (edge_above edges e) z

-- edge e is under zone z, and its zone below is not placed
abbrev pub holds_back : List ℕ → List ℕ → ℕ → ℕ → Formula
holds_back edges placed z e = both (is_equal (edge_above edges e) z) (not_so (is_in (edge_below edges e) placed))

-- the word of zone z: 0 where it is placed, otherwise 1 more than the edges of the order that hold it back
unfoldable pub wait_of : List ℕ → List ℕ → List ℕ → ℕ → ℕ
wait_of edges order placed z =
    elim (holds (is_in z placed)) [ true ↦ zero | false ↦ suc (tally (λ e. holds (holds_back edges placed z e)) order) ]

-- the words where no zone is placed: 1 more than the edges of a list under the zone
unfoldable pub counted : List ℕ → List ℕ → ℕ → List ℕ
counted edges l zones = tab (λ z. suc (tally (is_under edges z) l)) zones

-- the words, each less by the edges of a run that are under its zone
unfoldable pub lowered : List ℕ → List ℕ → List ℕ → List ℕ
lowered edges run waits = tab (λ z. get_or waits z 0 - tally (is_under edges z) run) (length waits)

-- the cursor, where the word of a zone is lowered by 1: the zone, where it becomes ready and is lower
abbrev pub lower_cursor : ℕ → ℕ → ℕ → ℕ
lower_cursor word zone cursor = elim (eqb word 2) [ true ↦ min zone cursor | false ↦ cursor ]
