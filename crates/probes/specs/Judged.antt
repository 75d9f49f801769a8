-- What refusal 22 judges of the words that a search reads, and of a probed edge.
use Rattle.std.specs.Prelude.{[], ℕ}
use Rattle.subdivision.specs.declared.Look.{Look}
use Rattle.subdivision.specs.declared.Segment.{Segment}
use Rattle.subdivision.specs.Formula.{Formula, is_less, is_at_most, both}
use Rattle.subdivision.specs.Sheet.{Sheet}
use Rattle.subdivision.specs.Rules.{in_range}
use Rattle.subdivision.specs.Descent.{look, index_look_ups}

-- both ends of an edge are in range and between the margins, and it runs strictly west to east
abbrev pub runs_inside : ℕ → ℕ → Segment → Formula
runs_inside west east g = both (both (inside g.xw g.yw) (inside g.xe g.ye)) (is_less g.xw g.xe)
  where
    inside : ℕ → ℕ → Formula
    inside x y = both (both (in_range x) (in_range y)) (both (is_at_most west x) (is_at_most x east))

-- the starts of a chain and of the next one are at most m, and not the wrong way round
abbrev pub starts_kept : ℕ → ℕ → ℕ → Formula
starts_kept from to m = both (both (is_at_most from m) (is_at_most to m)) (is_at_most from to)

-- the places of an edge's zones are below n, and place below < k <= place above
abbrev pub places_kept : ℕ → ℕ → ℕ → ℕ → Formula
places_kept n below k above = both (both (is_less below n) (is_less above n)) (both (is_less below k) (is_at_most k above))

-- a look at edge e that is judged; it depends on no other word of an index
abbrev pub judged_look : Sheet → ℕ → ℕ → Look
judged_look s x e = look s (index_look_ups s []) x e
