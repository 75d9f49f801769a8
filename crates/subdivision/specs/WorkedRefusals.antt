-- The edges of the rules in document 01's cases, and a sheet for rule 5's western clause, computed from the definitions.
use Rattle.std.specs.Prelude.{◌≡◌, refl, true, false, not, [], ◌∷◌, ◌++◌, ℕ, pos, negsuc}
use Rattle.subdivision.specs.Results.{Verdict}
use Rattle.std.specs.Prelude.{Ok, Err}
use Rattle.subdivision.specs.Results.{passed, refused}
use Rattle.subdivision.specs.Formula.{Formula, both, holds}
use Rattle.subdivision.specs.Lowest.{lowest}
use Rattle.subdivision.specs.Lists.{tab}
use Rattle.subdivision.specs.Dyadic.{bits, top_bit, low_bit, lca}
use Rattle.subdivision.specs.Order.{in_order}
use Rattle.subdivision.specs.Sheet.{Sheet}
use Rattle.subdivision.specs.Rules.{western_names, eastern_names, tops_and_bottoms, margin_names}
use Rattle.subdivision.specs.ZoneLine.{next_zone, zone_line, above_circle}
use Rattle.subdivision.specs.Refusals.{judged, limit_refusals, room_refusal, rule_refusals}
use Rattle.subdivision.specs.Index.{place_of, zone_at, chain_of, eastward, chain, start_of, index_words}
use Rattle.subdivision.specs.Calls.{opening}

-- two lenses side by side, zone 3 above and zone 0 below: the left one has zone 2 over zone 1, the right one the two zones given, the upper first
unfoldable pub two_lenses : ℕ → ℕ → Sheet
two_lenses upper lower =
    record { west = pos 0; east = pos 4; vertices = pos 0 ∷ pos 0 ∷ pos 2 ∷ pos 0 ∷ pos 4 ∷ pos 0 ∷ pos 1 ∷ pos 1 ∷ pos 1 ∷ negsuc 0 ∷ pos 3 ∷ pos 1 ∷ pos 3 ∷ negsuc 0 ∷ []; edges = 0 ∷ 3 ∷ 3 ∷ 2 ∷ 3 ∷ 1 ∷ 3 ∷ 2 ∷ 0 ∷ 4 ∷ 1 ∷ 0 ∷ 4 ∷ 1 ∷ 1 ∷ 0 ∷ 0 ∷ 1 ∷ 2 ∷ 1 ∷ 1 ∷ 5 ∷ 3 ∷ upper ∷ 5 ∷ 2 ∷ 3 ∷ upper ∷ 1 ∷ 6 ∷ lower ∷ 0 ∷ 6 ∷ 2 ∷ lower ∷ 0 ∷ 1 ∷ 2 ∷ upper ∷ lower ∷ []; zones = 4 }

-- the lens sheet with its eastern margin and the x of its vertex 3 given
unfoldable pub wide_lens : ℕ → ℕ → Sheet
wide_lens east far =
    record { west = pos 0; east = pos east; vertices = pos 0 ∷ pos 0 ∷ pos 2 ∷ pos 2 ∷ pos 2 ∷ negsuc 1 ∷ pos far ∷ pos 0 ∷ []; edges = 0 ∷ 1 ∷ 2 ∷ 1 ∷ 1 ∷ 3 ∷ 2 ∷ 1 ∷ 0 ∷ 2 ∷ 1 ∷ 0 ∷ 2 ∷ 3 ∷ 1 ∷ 0 ∷ []; zones = 3 }

-- a sheet with nothing drawn
unfoldable pub blank : ℕ → Sheet
blank n = record { west = pos 0; east = pos 4; vertices = []; edges = []; zones = n }

-- two edges from W that meet at vertex 0 on E, with zone 3 above the lower one and zone 1 below the upper one
unfoldable pub wedge : Sheet
wedge =
    record { west = pos 0; east = pos 4; vertices = pos 4 ∷ pos 0 ∷ pos 0 ∷ pos 1 ∷ pos 0 ∷ negsuc 0 ∷ []; edges = 1 ∷ 0 ∷ 2 ∷ 1 ∷ 2 ∷ 0 ∷ 3 ∷ 0 ∷ []; zones = 4 }

-- rule 5 at vertex v of the wedge, but for its western clause
unfoldable pub other_clauses : ℕ → Formula
other_clauses v = both (eastern_names wedge v) (both (tops_and_bottoms wedge v) (margin_names wedge v))

-- the verdict of opening over so many lent words
unfoldable pub verdict_on : Sheet → (ℕ → ℕ) → ℕ → Verdict
verdict_on s w words = (opening s (tab w words)).verdict

-- the cases, whatever words w were lent
pub worked_refusals :
    (w : ℕ → ℕ) →
    -- the circle: refused 13, zone 1; with the right lens as the left it is accepted
    (opening (two_lenses 1 2) (tab w 23) ≡ record { verdict = refused 13 1; index = tab w 23 })
    × (verdict_on (two_lenses 2 1) w 23 ≡ passed)
    -- of its zones all but 0 have a circle at them or below them: the highest stuck zone would be 3
    × (tab (λ z. holds (above_circle (two_lenses 1 2) z)) 4 ≡ false ∷ true ∷ true ∷ true ∷ [])
    -- 13 index words give 3, also where a vertex is bad
    × (opening (wide_lens 4 4) (tab w 13) ≡ record { verdict = refused 3 0; index = tab w 13 })
    × (verdict_on (wide_lens 4 1000000001) w 13 ≡ refused 3 0)
    -- where 3 is judged after the rules it gives 4
    × (judged (limit_refusals (wide_lens 4 1000000001) ++ (rule_refusals (wide_lens 4 1000000001) ++ (room_refusal (wide_lens 4 1000000001) 13 ∷ []))) ≡ refused 4 3)
    -- x = 1,000,000,000 stands, 1,000,000,001 gives 4, and as a margin 2
    × (verdict_on (wide_lens 1000000000 1000000000) w 14 ≡ passed)
    × (verdict_on (wide_lens 1000000000 1000000001) w 14 ≡ refused 4 3)
    × (verdict_on (wide_lens 1000000001 1000000000) w 14 ≡ refused 2 0)
    -- nothing drawn: n = 2 gives 12, zone 0; n = 1 is accepted, with its index
    × (verdict_on (blank 2) w 9 ≡ refused 12 0)
    × (opening (blank 1) (tab w 5) ≡ record { verdict = passed; index = 0 ∷ 0 ∷ 0 ∷ 0 ∷ w 4 ∷ [] })
    × (verdict_on (blank 0) w 9 ≡ refused 1 0)
    -- the wedge is refused 11 at vertex 0, by the western clause alone: by the others the lowest vertex at fault is 2
    × (verdict_on wedge w 20 ≡ refused 11 0)
    × (holds (western_names wedge 0) ≡ false)
    × (lowest (λ v. not (holds (other_clauses v))) 3 ≡ 2)
unfolding two_lenses wide_lens blank wedge other_clauses verdict_on opening place_of zone_at chain_of eastward chain start_of index_words next_zone zone_line in_order bits top_bit low_bit lca lowest tab
worked_refusals w = (refl, refl, refl, refl, refl, refl, refl, refl, refl, refl, refl, refl, refl, refl, refl)
