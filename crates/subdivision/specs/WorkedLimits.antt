-- The limits in document 02's P5 and the limits before it, computed from the definitions on the cases at their edges.
use Rattle.std.specs.Prelude.{◌≡◌, refl, true, false, [], ◌∷◌, ℕ, suc, ◌-◌, ◌%◌, pos}
use Rattle.subdivision.specs.declared.Answer.{Answer}
use Rattle.std.specs.Prelude.{Ok, Err}
use Rattle.subdivision.specs.Results.{Reply, passed, refused, reply_of}
use Rattle.subdivision.specs.declared.Segment.{Segment}
use Rattle.subdivision.specs.declared.Side.{Side}
use Rattle.subdivision.specs.declared.Side.TheVariants.{Below, On, Above}
use Rattle.subdivision.specs.Limits.{earlier_limits, program_limits, max_zones, max_examined, lowest_coordinate, highest_coordinate}
use Rattle.subdivision.specs.Formula.{holds}
use Rattle.subdivision.specs.Lowest.{lowest}
use Rattle.subdivision.specs.Lists.{tab}
use Rattle.subdivision.specs.Dyadic.{bits, top_bit, low_bit, lca}
use Rattle.subdivision.specs.Order.{in_order}
use Rattle.subdivision.specs.Lines.{point_part, edge_part, side_of, side_at}
use Rattle.subdivision.specs.Rules.{in_range}
use Rattle.subdivision.specs.ZoneLine.{next_zone, zone_line}
use Rattle.subdivision.specs.Refusals.{counts_within, counts_within_under, trail_room}
use Rattle.subdivision.specs.Index.{place_of, zone_at, chain_of, eastward, chain, start_of, index_words}
use Rattle.subdivision.specs.Reading.{first_zone, last_zone, zone_beneath, plain_reading}
use Rattle.subdivision.specs.Calls.{opening_under, opening, reading_under, reading, searching}
use Rattle.subdivision.specs.WorkedRefusals.{wide_lens, blank}

-- an edge over nearly the whole width, from (-1,000,000,000, -1,000,000,000) to (999,999,999, 999,999,998), shifted
unfoldable pub long_edge : Segment
long_edge = record { west = 0; east = 1; xw = 1147483648; yw = 1147483648; xe = 3147483647; ye = 3147483646 }

-- the side test with both of its numbers kept at 32 bits
unfoldable pub side_at32 : Segment → ℕ → ℕ → Side
side_at32 g x y = side_of (point_part g y % 4294967296) (edge_part g x % 4294967296)

-- the nearest misses of that edge
pub worked_misses :
    -- (999,999,998, 999,999,997) is below it by one unit of the test's number, less than doubles tell apart at this size
    (side_at long_edge 3147483646 3147483645 ≡ Below)
    × (edge_part long_edge 3147483646 ≡ suc (point_part long_edge 3147483645))
    -- one higher is above it, and its ends are on it
    × (side_at long_edge 3147483646 3147483646 ≡ Above)
    × (side_at long_edge 3147483647 3147483646 ≡ On)
    × (side_at long_edge 1147483648 1147483648 ≡ On)
    -- (0, -2) is below it, and above it at 32 bits
    × (side_at long_edge 2147483648 2147483646 ≡ Below)
    × (side_at32 long_edge 2147483648 2147483646 ≡ Above)
unfolding long_edge side_at32
worked_misses = (refl, refl, refl, refl, refl, refl, refl)

-- the cases, whatever words w were lent
pub worked_limits :
    (w : ℕ → ℕ) →
    -- 4,096 vertices, 8,192 edges and 4,096 zones stand; one more of each gives 1, and so does no zone
    (holds (counts_within 4096 8192 4096) ≡ true)
    × (holds (counts_within 4097 8192 4096) ≡ false)
    × (holds (counts_within 4096 8193 4096) ≡ false)
    × (holds (counts_within 4096 8192 4097) ≡ false)
    × (holds (counts_within 4096 8192 0) ≡ false)
    -- a program with fixed buffers holds 1,024, 2,048 and 1,024, as every sheet did before
    × (holds (counts_within_under program_limits 1024 2048 1024) ≡ true)
    × (holds (counts_within_under program_limits 1025 2048 1024) ≡ false)
    × (holds (counts_within_under program_limits 1024 2049 1024) ≡ false)
    × (holds (counts_within_under program_limits 1024 2048 1025) ≡ false)
    × (holds (counts_within_under earlier_limits 1024 2048 1025) ≡ false)
    -- coordinates lie in -1,000,000,000 to 1,000,000,000, shifted
    × (lowest_coordinate ∷ highest_coordinate ∷ [] ≡ 1147483648 ∷ 3147483648 ∷ [])
    × (holds (in_range 1147483647) ≡ false)
    × (holds (in_range 3147483649) ≡ false)
    -- a trail of 11 on 4,096 zones gives 21, one of 12 has room
    × (reply_of (searching (blank max_zones) (tab w 12289) (pos 0) (pos 0) (tab w 11)).found ≡ refused 21 0)
    × (holds (trail_room (blank max_zones) 11) ≡ false)
    × (holds (trail_room (blank max_zones) max_examined) ≡ true)
    × (bits (max_zones - 1) ≡ max_examined)
    -- x = 1,000,001 stands now, and gave 4 before; as a margin it gave 2; x = 1,000,000 stood
    × ((opening (wide_lens 1000001 1000001) (tab w 14)).verdict ≡ passed)
    × ((opening_under earlier_limits (wide_lens 1000000 1000001) (tab w 14)).verdict ≡ refused 4 3)
    × ((opening_under earlier_limits (wide_lens 1000001 1000001) (tab w 14)).verdict ≡ refused 2 0)
    × ((opening_under earlier_limits (wide_lens 1000000 1000000) (tab w 14)).verdict ≡ passed)
    -- a point with y = 1,000,001 was refused 20 and is read now; one with y = 1,000,000,001 is refused 20
    × (reading_under earlier_limits (wide_lens 4 4) (pos 2) (pos 1000001) ≡ refused 20 0)
    × (reading (wide_lens 4 4) (pos 2) (pos 1000001) ≡ Ok (Answer.Zone 2))
    × (reading (wide_lens 4 4) (pos 2) (pos 1000000000) ≡ Ok (Answer.Zone 2))
    × (reading (wide_lens 4 4) (pos 2) (pos 1000000001) ≡ refused 20 0)
unfolding wide_lens blank opening reading searching place_of zone_at chain_of eastward chain start_of index_words first_zone last_zone zone_beneath plain_reading next_zone zone_line in_order bits top_bit low_bit lca lowest tab
worked_limits w = (refl, refl, refl, refl, refl, refl, refl, refl, refl, refl, refl, refl, refl, refl, refl, refl, refl, refl, refl, refl, refl, refl, refl, refl, refl)
