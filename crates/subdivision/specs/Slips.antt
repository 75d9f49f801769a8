-- The slips of document 01, "Slips that look right", each told apart by a worked sheet, computed from the definitions.
use Rattle.std.specs.Prelude.{◌≡◌, refl, List, [], ◌∷◌, ℕ, ℤ, pos, negsuc}
use Rattle.subdivision.specs.declared.Answer.{Answer}
use Rattle.subdivision.specs.declared.Answer.TheVariants.{Zone}
use Rattle.std.specs.Prelude.{Ok, Err}
use Rattle.subdivision.specs.Results.{passed, refused}
use Rattle.subdivision.specs.Lowest.{lowest}
use Rattle.subdivision.specs.Lists.{tab}
use Rattle.subdivision.specs.Dyadic.{bits, top_bit, low_bit, lca}
use Rattle.subdivision.specs.Order.{in_order}
use Rattle.subdivision.specs.Sheet.{Sheet, shifted}
use Rattle.subdivision.specs.ZoneLine.{next_zone, zone_line}
use Rattle.subdivision.specs.Reading.{first_zone, last_zone, zone_beneath, zone_overhead, zone_beneath_west, zone_overhead_west, plain_reading}
use Rattle.subdivision.specs.Index.{place_of, zone_at, chain_of, eastward, chain, start_of, index_words}
use Rattle.subdivision.specs.Descent.{descent, index_descent}
use Rattle.subdivision.specs.Calls.{opening, reading, searching}

-- three level chains of three edges each, one over the other, between the zones 2, 0, 3 and 1 from bottom to top
unfoldable pub terraces : Sheet
terraces =
    record { west = pos 0; east = pos 3; vertices = pos 0 ∷ pos 0 ∷ pos 1 ∷ pos 0 ∷ pos 2 ∷ pos 0 ∷ pos 3 ∷ pos 0 ∷ pos 0 ∷ pos 10 ∷ pos 1 ∷ pos 10 ∷ pos 2 ∷ pos 10 ∷ pos 3 ∷ pos 10 ∷ pos 0 ∷ pos 20 ∷ pos 1 ∷ pos 20 ∷ pos 2 ∷ pos 20 ∷ pos 3 ∷ pos 20 ∷ []; edges = 0 ∷ 1 ∷ 0 ∷ 2 ∷ 1 ∷ 2 ∷ 0 ∷ 2 ∷ 2 ∷ 3 ∷ 0 ∷ 2 ∷ 4 ∷ 5 ∷ 3 ∷ 0 ∷ 5 ∷ 6 ∷ 3 ∷ 0 ∷ 6 ∷ 7 ∷ 3 ∷ 0 ∷ 8 ∷ 9 ∷ 1 ∷ 3 ∷ 9 ∷ 10 ∷ 1 ∷ 3 ∷ 10 ∷ 11 ∷ 1 ∷ 3 ∷ []; zones = 4 }

-- the 22 words of its index
unfoldable pub terrace_index : List ℕ
terrace_index = 1 ∷ 3 ∷ 0 ∷ 2 ∷ 2 ∷ 0 ∷ 3 ∷ 1 ∷ 0 ∷ 0 ∷ 3 ∷ 6 ∷ 9 ∷ 0 ∷ 1 ∷ 2 ∷ 3 ∷ 4 ∷ 5 ∷ 6 ∷ 7 ∷ 8 ∷ []

-- a level line from margin to margin in two edges, with zone 0 below, and above it zone 1 in the west and zone 2 in the east
unfoldable pub hidden_name : Sheet
hidden_name =
    record { west = pos 0; east = pos 2; vertices = pos 0 ∷ pos 0 ∷ pos 1 ∷ pos 0 ∷ pos 2 ∷ pos 0 ∷ []; edges = 0 ∷ 1 ∷ 1 ∷ 0 ∷ 1 ∷ 2 ∷ 2 ∷ 0 ∷ []; zones = 3 }

-- two level lines from margin to margin in two edges each; of the four edges round the middle each names another zone there
unfoldable pub scattered : Sheet
scattered =
    record { west = pos 0; east = pos 2; vertices = pos 0 ∷ pos 0 ∷ pos 1 ∷ pos 0 ∷ pos 2 ∷ pos 0 ∷ pos 0 ∷ pos 10 ∷ pos 1 ∷ pos 10 ∷ pos 2 ∷ pos 10 ∷ []; edges = 0 ∷ 1 ∷ 4 ∷ 0 ∷ 1 ∷ 2 ∷ 2 ∷ 0 ∷ 3 ∷ 4 ∷ 1 ∷ 5 ∷ 4 ∷ 5 ∷ 1 ∷ 3 ∷ []; zones = 6 }

-- an edge that rises by one over three abscissas, with zone 0 below and zone 1 above
unfoldable pub flat_edge : Sheet
flat_edge =
    record { west = pos 0; east = pos 3; vertices = pos 0 ∷ pos 0 ∷ pos 3 ∷ pos 1 ∷ []; edges = 0 ∷ 1 ∷ 1 ∷ 0 ∷ []; zones = 2 }

-- the four readings of a point: beneath, overhead, and the two western ones
unfoldable pub four_readings : Sheet → ℤ → ℤ → List ℕ
four_readings s x y =
    zone_beneath s (shifted x) (shifted y) ∷ zone_overhead s (shifted x) (shifted y) ∷ zone_beneath_west s (shifted x) (shifted y) ∷ zone_overhead_west s (shifted x) (shifted y) ∷ []

-- the slips, whatever words w were lent
pub slips_told_apart :
    (w : ℕ → ℕ) →
    -- the terraces are accepted, with their index
    (opening terraces (tab w 22) ≡ record { verdict = passed; index = terrace_index })
    -- nothing beneath is the first zone of the line, and not zone 0
    × (reading terraces (pos 1) (negsuc 4) ≡ Ok (Zone 2))
    -- at a vertex abscissa the edge to its east covers; a chain once passed is not examined again; each look is counted
    × (searching terraces terrace_index (pos 2) (pos 25) (tab w 3) ≡ record { found = Ok (record { answer = Zone 1; examined = 2; probes = 4 }); trail = 5 ∷ 8 ∷ w 2 ∷ [] })
    -- a name changed where two edges end on one abscissa is refused, at that vertex
    × (opening hidden_name (tab w 12) ≡ record { verdict = refused 11 1; index = tab w 12 })
    -- a height of two thirds is neither 0 nor 1
    × (reading flat_edge (pos 2) (pos 0) ∷ reading flat_edge (pos 2) (pos 1) ∷ [] ≡ Ok (Zone 0) ∷ Ok (Zone 1) ∷ [])
    -- the four readings agree on the terraces, and differ where the name is changed
    × (four_readings terraces (pos 1) (pos 15) ≡ 3 ∷ 3 ∷ 3 ∷ 3 ∷ [])
    × (four_readings hidden_name (pos 1) (pos 5) ≡ 2 ∷ 2 ∷ 1 ∷ 2 ∷ [])
    -- on a sheet that breaks rule 5, and no rule before it, no two of the four agree
    × (reading scattered (pos 1) (pos 5) ≡ refused 11 0)
    × (four_readings scattered (pos 1) (pos 5) ≡ 2 ∷ 3 ∷ 4 ∷ 5 ∷ [])
unfolding terraces terrace_index hidden_name scattered flat_edge four_readings opening reading searching descent index_descent place_of zone_at chain_of eastward chain start_of index_words first_zone last_zone zone_beneath zone_overhead zone_beneath_west zone_overhead_west plain_reading next_zone zone_line in_order bits top_bit low_bit lca lowest tab
slips_told_apart w = (refl, refl, refl, refl, refl, refl, refl, refl, refl)
