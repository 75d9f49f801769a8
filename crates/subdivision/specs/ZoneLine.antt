-- Rule 7 of document 01: the line of zones; and the circles that refusal 13 speaks of, as document 02's P4 has it.
use Rattle.std.specs.Prelude.{◌≡◌, true, false, List, [], ◌∷◌, ◌++◌, ℕ, zero, suc, ◌<◌, ltb, eqb, length}
use Rattle.subdivision.specs.Formula.{Formula, is_less, is_equal, both, either, implies, not_so, every_below, some_below, holds, Means}
use Rattle.subdivision.specs.Lowest.{lowest}
use Rattle.subdivision.specs.Sheet.{Sheet, edge_count, zone_count, above_of, below_of}

-- the place of z in a list, counted from 0; the list's length where it is not there
abbrev pub position : ℕ → List ℕ → ℕ
position z [] = zero
position z (x ∷ xs) = elim (eqb z x) [ true ↦ zero | false ↦ suc (position z xs) ]

-- z stands in the list
abbrev pub is_in : ℕ → List ℕ → Formula
is_in z l = is_less (position z l) (length l)

module _ (s : Sheet) where
  -- the zones stand in one line, each once, so that for each edge the zone below comes before the zone above
  pub record InLine (l : List ℕ) : Type 0 where
    pub long : length l ≡ zone_count s
    pub holding : (z : ℕ) → z < zone_count s → position z l < length l
    pub rising : (e : ℕ) → e < edge_count s → position (below_of s e) l < position (above_of s e) l

  -- rule 7: the zones can be put in such a line
  abbrev pub Rule7 : Type 0
  Rule7 = (l : List ℕ) × InLine l

  -- zone z is not placed yet, and all its zones directly below are
  abbrev pub is_ready : List ℕ → ℕ → Formula
  is_ready placed z =
      both (not_so (is_in z placed))
      (every_below (edge_count s) (λ e. implies (is_equal (above_of s e) z) (is_in (below_of s e) placed)))

  -- the lowest-numbered zone that is ready; n where none is
  unfoldable pub next_zone : List ℕ → ℕ
  next_zone placed = lowest (λ z. holds (is_ready placed z)) (zone_count s)

  -- the line with the next zone put at its end, where one is ready
  abbrev pub lengthened : List ℕ → List ℕ
  lengthened placed = elim (ltb (next_zone placed) (zone_count s)) [ true ↦ placed ++ (next_zone placed ∷ []) | false ↦ placed ]

  -- the first so many places of the line used
  abbrev pub line_to : ℕ → List ℕ
  line_to zero = []
  line_to (suc p) = lengthened (line_to p)

  -- the line used: at each place the lowest-numbered zone all of whose zones directly below are placed already
  unfoldable pub zone_line : List ℕ
  zone_line = line_to (zone_count s)

  -- rule 7, computed: the line used has every place filled
  abbrev pub rule7 : Formula
  rule7 = is_equal (length zone_line) (zone_count s)

  -- steps from below to above lead from zone a to zone b, at most so many
  abbrev pub leads : ℕ → ℕ → ℕ → Formula
  leads zero a b = is_equal a b
  leads (suc steps) a b =
      either (is_equal a b) (some_below (edge_count s) (λ e. both (is_equal (below_of s e) a) (leads steps (above_of s e) b)))

  -- zone c is on a circle: steps from below to above lead from it back to it, one and any number more (document 02, P4)
  abbrev pub OnCircle : ℕ → Type 0
  OnCircle c = (e : ℕ) × (e < edge_count s) × ((below_of s e ≡ c) × ((k : ℕ) × Means (leads k (above_of s e) c)))

  -- the same, computed: one step and at most n more
  abbrev pub on_circle : ℕ → Formula
  on_circle c = some_below (edge_count s) (λ e. both (is_equal (below_of s e) c) (leads (zone_count s) (above_of s e) c))

  -- zone z has a circle at it or below it: the zones that refusal 13 spoke of before P4
  abbrev pub above_circle : ℕ → Formula
  above_circle z = some_below (zone_count s) (λ c. both (on_circle c) (leads (zone_count s) c z))
