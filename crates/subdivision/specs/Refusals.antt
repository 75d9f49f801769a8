-- Why a sheet is refused: document 01, "Why the desk refuses", lines 1 to 13 of its table, and the room that line 21 asks for.
use Rattle.std.specs.Prelude.{true, false, not, List, [], ◌∷◌, ℕ, ◌-◌, ◌%◌, length}
use Rattle.subdivision.specs.Results.{Verdict, passed, refused}
use Rattle.subdivision.specs.Limits.{Limits, limits}
use Rattle.subdivision.specs.Formula.{Formula, is_less, is_at_most, is_equal, both, not_so, every_below, holds}
use Rattle.subdivision.specs.Lowest.{lowest}
use Rattle.subdivision.specs.Dyadic.{bits}
use Rattle.subdivision.specs.Layout.{index_need}
use Rattle.subdivision.specs.Sheet.{Sheet, west_margin, east_margin, vertex_count, edge_count, zone_count}
use Rattle.subdivision.specs.Rules.{in_range_under, vertex_inside_under, vertex_new, edge_names, edge_runs, zones_differ, vertex_regular, edge_clear, names_agree, zone_named}
use Rattle.subdivision.specs.ZoneLine.{rule7, on_circle}

-- a line of the table: the number, what holds unless it is given, and the clause that its named item breaks, of so many items
pub record Refusal : Type 0 where
  pub number : ℕ
  pub kept : Formula
  pub clause : ℕ → Formula
  pub items : ℕ

-- the named item: the lowest that breaks the clause; 0 where there are no items
abbrev pub names : Refusal → ℕ
names r = lowest (λ k. not (holds (r.clause k))) r.items

-- a refusal that names nothing
abbrev pub unnamed : ℕ → Formula → Refusal
unnamed number kept = record { number = number; kept = kept; clause = λ k. kept; items = 0 }

-- a refusal given when some item breaks a clause; it names the lowest such
abbrev pub for_each : ℕ → ℕ → (ℕ → Formula) → Refusal
for_each number items clause = record { number = number; kept = every_below items clause; clause = clause; items = items }

-- where several apply, the first in the call's order is given
abbrev pub judged : List Refusal → Verdict
judged [] = passed
judged (r ∷ rs) = elim (holds r.kept) [ true ↦ judged rs | false ↦ refused r.number (names r) ]

-- so many vertices, edges and zones are within limits
abbrev pub counts_within_under : Limits → ℕ → ℕ → ℕ → Formula
counts_within_under l vertices edges zones =
    both (both (is_at_most vertices l.vertices) (is_at_most edges l.edges)) (both (is_at_most 1 zones) (is_at_most zones l.zones))

-- so many vertices, edges and zones are within their limits
abbrev pub counts_within : ℕ → ℕ → ℕ → Formula
counts_within vertices edges zones = counts_within_under limits vertices edges zones

module _ (l : Limits) (s : Sheet) where
  -- refusal 1, under limits: the tables are whole records, and no count is beyond its limit
  abbrev pub counts_kept_under : Formula
  counts_kept_under =
      both (both (is_equal (length s.vertices % 2) 0) (is_equal (length s.edges % 4) 0))
      (counts_within_under l (vertex_count s) (edge_count s) (zone_count s))

  -- refusal 2, under limits: both margins are in range, and W < E
  abbrev pub margins_kept_under : Formula
  margins_kept_under = both (both (in_range_under l (west_margin s)) (in_range_under l (east_margin s))) (is_less (west_margin s) (east_margin s))

  -- refusals 1 and 2 under limits, in order
  abbrev pub limit_refusals_under : List Refusal
  limit_refusals_under = unnamed 1 counts_kept_under ∷ unnamed 2 margins_kept_under ∷ []

module _ (s : Sheet) where
  -- refusal 1: the tables are whole records, and no count is beyond its limit
  abbrev pub counts_kept : Formula
  counts_kept = counts_kept_under limits s

  -- refusal 2: both margins are in range, and W < E
  abbrev pub margins_kept : Formula
  margins_kept = margins_kept_under limits s

  -- refusals 1 and 2, in order
  abbrev pub limit_refusals : List Refusal
  limit_refusals = limit_refusals_under limits s

  -- refusal 3: the index has room
  abbrev pub room_refusal : ℕ → Refusal
  room_refusal words = unnamed 3 (is_at_most (index_need (zone_count s) (edge_count s)) words)

  -- refusal 21: the trail has room for bits(n-1) edges
  abbrev pub trail_room : ℕ → Formula
  trail_room places = is_at_most (bits (zone_count s - 1)) places

  -- refusal 13: rule 7 can't be kept; names the lowest zone that is itself on a circle (document 02, P4)
  abbrev pub circle_refusal : Refusal
  circle_refusal = record { number = 13; kept = rule7 s; clause = λ z. not_so (on_circle s z); items = zone_count s }

  -- refusals 4 to 13 under limits, in order
  abbrev pub rule_refusals_under : Limits → List Refusal
  rule_refusals_under l =
      for_each 4 (vertex_count s) (vertex_inside_under l s)
      ∷ for_each 5 (vertex_count s) (vertex_new s)
      ∷ for_each 6 (edge_count s) (edge_names s)
      ∷ for_each 7 (edge_count s) (edge_runs s)
      ∷ for_each 8 (edge_count s) (zones_differ s)
      ∷ for_each 9 (vertex_count s) (vertex_regular s)
      ∷ for_each 10 (edge_count s) (edge_clear s)
      ∷ for_each 11 (vertex_count s) (names_agree s)
      ∷ for_each 12 (zone_count s) (zone_named s)
      ∷ circle_refusal
      ∷ []

  -- refusals 4 to 13, in order
  abbrev pub rule_refusals : List Refusal
  rule_refusals = rule_refusals_under limits
