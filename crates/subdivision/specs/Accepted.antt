-- The limits and rules of document 01 as plain statements, and what it is for a sheet to be accepted.
-- Beside each, by `refl`, that it is what the formula of the same name means.
use Rattle.std.specs.Prelude.{◌≡◌, refl, ◌⊎◌, ℕ, ◌*◌, ◌%◌, ◌<◌, ◌≤◌, min, max, length}
use Rattle.subdivision.specs.declared.Segment.{Segment}
use Rattle.subdivision.specs.Limits.{max_vertices, max_edges, max_zones, lowest_coordinate, highest_coordinate}
use Rattle.subdivision.specs.Formula.{Means}
use Rattle.subdivision.specs.Sheet.{Sheet, west_margin, east_margin, vertex_count, edge_count, zone_count, x_of, y_of, west_of, east_of, above_of, below_of, segment}
use Rattle.subdivision.specs.Lines.{width, height}
use Rattle.subdivision.specs.Rules.{line_west_of, line_east_of, rule1, rule2, rule3, rule4, rule5, rule6}
use Rattle.subdivision.specs.ZoneLine.{Rule7}
use Rattle.subdivision.specs.Refusals.{counts_kept, margins_kept}

-- a shifted coordinate is in range
abbrev pub InRange : ℕ → Type 0
InRange c = (lowest_coordinate ≤ c) × (c ≤ highest_coordinate)

-- g is lower than h on the doubled line c
abbrev pub Lower : ℕ → Segment → Segment → Type 0
Lower c g h = height c g * width h < height c h * width g

-- g and h are equally high on the doubled line c
abbrev pub Level : ℕ → Segment → Segment → Type 0
Level c g h = height c g * width h ≡ height c h * width g

-- two edges break rule 4 on their overlap from a to b
abbrev pub ConflictOn : ℕ → ℕ → Segment → Segment → Type 0
ConflictOn a b g h =
    ((Lower (2 * a) g h × Lower (2 * b) h g) ⊎ (Lower (2 * a) h g × Lower (2 * b) g h))
    ⊎ ((Level (2 * a) g h × Level (2 * b) g h)
    ⊎ ((Level (2 * a) g h × (g.west ≡ h.west → ⊥))
    ⊎ (Level (2 * b) g h × (g.east ≡ h.east → ⊥))))

-- two edges break rule 4
abbrev pub Conflict : Segment → Segment → Type 0
Conflict g h = (max g.xw h.xw < min g.xe h.xe) × ConflictOn (max g.xw h.xw) (min g.xe h.xe) g h

module _ (s : Sheet) where
  -- the tables are whole records, and no count is beyond its limit
  abbrev pub CountsKept : Type 0
  CountsKept =
      ((length s.vertices % 2 ≡ 0) × (length s.edges % 4 ≡ 0))
      × (((vertex_count s ≤ max_vertices) × (edge_count s ≤ max_edges)) × ((1 ≤ zone_count s) × (zone_count s ≤ max_zones)))

  -- both margins are in range, and W < E
  abbrev pub MarginsKept : Type 0
  MarginsKept = (InRange (west_margin s) × InRange (east_margin s)) × (west_margin s < east_margin s)

  -- rule 1: every vertex is in range and W <= x <= E; no two are the same point
  abbrev pub Rule1 : Type 0
  Rule1 =
      ((v : ℕ) → v < vertex_count s → (InRange (x_of s v) × InRange (y_of s v)) × ((west_margin s ≤ x_of s v) × (x_of s v ≤ east_margin s)))
      × ((v : ℕ) → v < vertex_count s → (u : ℕ) → u < v → (x_of s u ≡ x_of s v) × (y_of s u ≡ y_of s v) → ⊥)

  -- rule 2: each edge names vertices and zones that exist, runs strictly west to east, and has different zones above and below
  abbrev pub Rule2 : Type 0
  Rule2 =
      ((e : ℕ) → e < edge_count s → ((west_of s e < vertex_count s) × (east_of s e < vertex_count s)) × ((above_of s e < zone_count s) × (below_of s e < zone_count s)))
      × (((e : ℕ) → e < edge_count s → x_of s (west_of s e) < x_of s (east_of s e))
      × ((e : ℕ) → e < edge_count s → above_of s e ≡ below_of s e → ⊥))

  -- vertex v has an edge on its west
  abbrev pub HasWestern : ℕ → Type 0
  HasWestern v = (e : ℕ) × (e < edge_count s) × (east_of s e ≡ v)

  -- vertex v has an edge on its east
  abbrev pub HasEastern : ℕ → Type 0
  HasEastern v = (e : ℕ) × (e < edge_count s) × (west_of s e ≡ v)

  -- rule 3: a vertex with W < x < E has an edge on its west and one on its east; one at W has an eastern edge, one at E a western one
  abbrev pub Rule3 : Type 0
  Rule3 =
      (v : ℕ) → v < vertex_count s
      → ((west_margin s < x_of s v) × (x_of s v < east_margin s) → HasWestern v × HasEastern v)
      × ((x_of s v ≡ west_margin s → HasEastern v) × (x_of s v ≡ east_margin s → HasWestern v))

  -- rule 4: no two edges share a point but a common end
  abbrev pub Rule4 : Type 0
  Rule4 = (e : ℕ) → e < edge_count s → (f : ℕ) → f < e → Conflict (segment s f) (segment s e) → ⊥

  -- of the edges in a set, none is higher than e on the line c
  abbrev pub Highest : ℕ → (ℕ → Type 0) → ℕ → Type 0
  Highest c Among e = Among e × ((f : ℕ) → f < edge_count s → Among f → Lower c (segment s e) (segment s f) → ⊥)

  -- of the edges in a set, none is lower than e on the line c
  abbrev pub Lowest : ℕ → (ℕ → Type 0) → ℕ → Type 0
  Lowest c Among e = Among e × ((f : ℕ) → f < edge_count s → Among f → Lower c (segment s f) (segment s e) → ⊥)

  -- of the edges in a set, f is the next one up from e on the line c
  abbrev pub NextUp : ℕ → (ℕ → Type 0) → ℕ → ℕ → Type 0
  NextUp c Among e f =
      (Among e × Among f)
      × (Lower c (segment s e) (segment s f)
      × ((g : ℕ) → g < edge_count s → Among g × Lower c (segment s e) (segment s g) → Lower c (segment s g) (segment s f) → ⊥))

  -- edge e is a western edge of vertex v
  abbrev pub Western : ℕ → ℕ → Type 0
  Western v e = east_of s e ≡ v

  -- edge e is an eastern edge of vertex v
  abbrev pub Eastern : ℕ → ℕ → Type 0
  Eastern v e = west_of s e ≡ v

  -- rule 5, the western fan: from bottom to top, each edge's zone above is the next one's zone below
  abbrev pub WesternNames : ℕ → Type 0
  WesternNames v =
      (e : ℕ) → e < edge_count s → (f : ℕ) → f < edge_count s → NextUp (line_west_of s v) (Western v) e f → above_of s e ≡ below_of s f

  -- rule 5, the eastern fan
  abbrev pub EasternNames : ℕ → Type 0
  EasternNames v =
      (e : ℕ) → e < edge_count s → (f : ℕ) → f < edge_count s → NextUp (line_east_of s v) (Eastern v) e f → above_of s e ≡ below_of s f

  -- rule 5, where a vertex has both: the top western and top eastern edge have the same zone above, the two bottom ones the same zone below
  abbrev pub TopsAndBottoms : ℕ → Type 0
  TopsAndBottoms v =
      (e : ℕ) → e < edge_count s → (f : ℕ) → f < edge_count s
      → (Highest (line_west_of s v) (Western v) e × Highest (line_east_of s v) (Eastern v) f → above_of s e ≡ above_of s f)
      × (Lowest (line_west_of s v) (Western v) e × Lowest (line_east_of s v) (Eastern v) f → below_of s e ≡ below_of s f)

  -- vertices v and u are at W, and u is the next one up the margin
  abbrev pub NextOnMargin : ℕ → ℕ → Type 0
  NextOnMargin v u =
      ((x_of s v ≡ west_margin s) × (x_of s u ≡ west_margin s))
      × ((y_of s v < y_of s u)
      × ((t : ℕ) → t < vertex_count s → (x_of s t ≡ west_margin s) × (y_of s v < y_of s t) → y_of s u ≤ y_of s t))

  -- rule 5, the margin: at W, the zone above a vertex's top eastern edge is the zone below the bottom eastern edge of the next vertex up
  abbrev pub MarginNames : ℕ → Type 0
  MarginNames v =
      (u : ℕ) → u < vertex_count s → NextOnMargin v u
      → (e : ℕ) → e < edge_count s → (f : ℕ) → f < edge_count s
      → Highest (line_east_of s v) (Eastern v) e × Lowest (line_east_of s u) (Eastern u) f → above_of s e ≡ below_of s f

  -- rule 5: names agree, its four clauses at each vertex
  abbrev pub Rule5 : Type 0
  Rule5 = (v : ℕ) → v < vertex_count s → (WesternNames v × EasternNames v) × (TopsAndBottoms v × MarginNames v)

  -- rule 6: every zone is named by some edge, but on the sheet with n = 1, V = 0, m = 0
  abbrev pub Rule6 : Type 0
  Rule6 =
      (z : ℕ) → z < zone_count s
      → ((e : ℕ) × (e < edge_count s) × ((above_of s e ≡ z) ⊎ (below_of s e ≡ z)))
      ⊎ ((zone_count s ≡ 1) × ((vertex_count s ≡ 0) × (edge_count s ≡ 0)))

  -- a sheet is accepted when it keeps the limits and the rules, whatever index is lent
  pub record Accepted : Type 0 where
    pub counts : CountsKept
    pub margins : MarginsKept
    pub one : Rule1
    pub two : Rule2
    pub three : Rule3
    pub four : Rule4
    pub five : Rule5
    pub six : Rule6
    pub seven : Rule7 s

  pub limits_say : (Means (counts_kept s) × Means (margins_kept s)) ≡ (CountsKept × MarginsKept)
  limits_say = refl

  pub rule1_says : Means (rule1 s) ≡ Rule1
  rule1_says = refl

  pub rule2_says : Means (rule2 s) ≡ Rule2
  rule2_says = refl

  pub rule3_says : Means (rule3 s) ≡ Rule3
  rule3_says = refl

  pub rule4_says : Means (rule4 s) ≡ Rule4
  rule4_says = refl

  pub rule5_says : Means (rule5 s) ≡ Rule5
  rule5_says = refl

  pub rule6_says : Means (rule6 s) ≡ Rule6
  rule6_says = refl
