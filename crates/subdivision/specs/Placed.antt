-- Where a point is, as statements: the second demand, and document 01, "The plain reading of a point".
-- Beside each that has a formula, by `refl`, that it is what the formula means.
use Rattle.std.specs.Prelude.{◌≡◌, refl, ◌⊎◌, ◌↔◌, ℕ, ◌*◌, ◌-◌, ◌<◌, ◌≤◌, Ok, Err}
use Rattle.subdivision.specs.declared.Answer.{Answer}
use Rattle.subdivision.specs.Results.{Reply}
use Rattle.subdivision.specs.Formula.{Means}
use Rattle.subdivision.specs.Sheet.{Sheet, west_margin, east_margin, vertex_count, edge_count, zone_count, x_of, y_of, west_of, east_of, above_of, below_of, segment}
use Rattle.subdivision.specs.Lines.{point_part, edge_part, is_on}
use Rattle.subdivision.specs.Accepted.{InRange, Highest, Lowest, Accepted}
use Rattle.subdivision.specs.Reading.{on_sheet, first_zone, last_zone, reading_line, is_vertex, beneath, overhead, beneath_west, overhead_west, zone_beneath, zone_overhead, zone_beneath_west, zone_overhead_west}

module _ (s : Sheet) where
  -- the point is on the sheet: W <= x <= E and y in range
  abbrev pub OnSheet : ℕ → ℕ → Type 0
  OnSheet x y = ((west_margin s ≤ x) × (x ≤ east_margin s)) × InRange y

  -- the abscissa is strictly between the margins
  abbrev pub Inland : ℕ → Type 0
  Inland x = (west_margin s < x) × (x < east_margin s)

  -- vertex v is the point
  abbrev pub IsVertex : ℕ → ℕ → ℕ → Type 0
  IsVertex x y v = (x_of s v ≡ x) × (y_of s v ≡ y)

  -- the point lies on edge e, its ends included
  abbrev pub IsOn : ℕ → ℕ → ℕ → Type 0
  IsOn x y e = ((x_of s (west_of s e) ≤ x) × (x ≤ x_of s (east_of s e))) × (point_part (segment s e) y ≡ edge_part (segment s e) x)

  -- the point equals no vertex
  abbrev pub OffVertices : ℕ → ℕ → Type 0
  OffVertices x y = (v : ℕ) → v < vertex_count s → IsVertex x y v → ⊥

  -- the point lies on no edge
  abbrev pub OffEdges : ℕ → ℕ → Type 0
  OffEdges x y = (e : ℕ) → e < edge_count s → IsOn x y e → ⊥

  -- the point is in one thing only, and that is the answer: one vertex, where every edge through it ends; or no vertex and one edge; or no vertex, no edge and a zone
  abbrev pub InOneThing : ℕ → ℕ → Reply → Type 0
  InOneThing x y (Ok (Answer.Vertex v)) =
      ((v < vertex_count s) × IsVertex x y v)
      × (((u : ℕ) → u < vertex_count s → IsVertex x y u → u ≡ v)
      × ((e : ℕ) → e < edge_count s → IsOn x y e → (west_of s e ≡ v) ⊎ (east_of s e ≡ v)))
  InOneThing x y (Ok (Answer.Edge e)) = OffVertices x y × (((e < edge_count s) × IsOn x y e) × ((f : ℕ) → f < edge_count s → IsOn x y f → f ≡ e))
  InOneThing x y (Ok (Answer.Zone z)) = OffVertices x y × (OffEdges x y × (z < zone_count s))
  InOneThing x y (Err e) = ⊥

  -- edge e covers abscissa x: its western x <= x < its eastern x, and for x = E its eastern x = E
  abbrev pub Covers : ℕ → ℕ → Type 0
  Covers x e =
      ((x_of s (west_of s e) ≤ x) × (x < x_of s (east_of s e))) ⊎ ((x ≡ east_margin s) × (x_of s (east_of s e) ≡ east_margin s))

  -- edge e has the western reading's cover of x: western x < x <= eastern x
  abbrev pub CoversWest : ℕ → ℕ → Type 0
  CoversWest x e = (x_of s (west_of s e) < x) × (x ≤ x_of s (east_of s e))

  -- edge e is strictly below the point
  abbrev pub Under : ℕ → ℕ → ℕ → Type 0
  Under x y e = edge_part (segment s e) x < point_part (segment s e) y

  -- edge e is strictly above the point
  abbrev pub Over : ℕ → ℕ → ℕ → Type 0
  Over x y e = point_part (segment s e) y < edge_part (segment s e) x

  -- zone z is read from an edge of a set: it is the found edge's; where the set has no edge it is another
  abbrev pub ReadFrom : (ℕ → Type 0) → (ℕ → Type 0) → (ℕ → ℕ) → ℕ → ℕ → Type 0
  ReadFrom Among Found zone_of other z =
      ((e : ℕ) × (e < edge_count s) × (Found e × (z ≡ zone_of e)))
      ⊎ (((e : ℕ) → e < edge_count s → Among e → ⊥) × (z ≡ other))

  -- of the covering edges strictly below the point, z is the zone above the one highest on the line x + 1/2 (x - 1/2 at E); with none, the first zone
  abbrev pub ReadBeneath : ℕ → ℕ → ℕ → Type 0
  ReadBeneath x y z =
      ReadFrom (λ e. Covers x e × Under x y e) (Highest s (reading_line s x) (λ e. Covers x e × Under x y e)) (above_of s) (first_zone s) z

  -- of the covering edges strictly above the point, z is the zone below the one lowest on that line; with none, the last zone
  abbrev pub ReadOverhead : ℕ → ℕ → ℕ → Type 0
  ReadOverhead x y z =
      ReadFrom (λ e. Covers x e × Over x y e) (Lowest s (reading_line s x) (λ e. Covers x e × Over x y e)) (below_of s) (last_zone s) z

  -- the western reading from beneath, on the line x - 1/2
  abbrev pub ReadBeneathWest : ℕ → ℕ → ℕ → Type 0
  ReadBeneathWest x y z =
      ReadFrom (λ e. CoversWest x e × Under x y e) (Highest s (2 * x - 1) (λ e. CoversWest x e × Under x y e)) (above_of s) (first_zone s) z

  -- the western reading from overhead, on the line x - 1/2
  abbrev pub ReadOverheadWest : ℕ → ℕ → ℕ → Type 0
  ReadOverheadWest x y z =
      ReadFrom (λ e. CoversWest x e × Over x y e) (Lowest s (2 * x - 1) (λ e. CoversWest x e × Over x y e)) (below_of s) (last_zone s) z

  -- zone z, and no other, is read from beneath and from overhead, and strictly between the margins also in the west
  pub record ReadSo (x y z : ℕ) : Type 0 where
    pub beneath : (w : ℕ) → ReadBeneath x y w ↔ (w ≡ z)
    pub overhead : (w : ℕ) → ReadOverhead x y w ↔ (w ≡ z)
    pub beneath_west : Inland x → (w : ℕ) → ReadBeneathWest x y w ↔ (w ≡ z)
    pub overhead_west : Inland x → (w : ℕ) → ReadOverheadWest x y w ↔ (w ≡ z)

  -- the zone read from beneath is zone z, and so is the one read from overhead; strictly between the margins the two western ones are as well
  pub record ZonesAgree (x y z : ℕ) : Type 0 where
    pub from_beneath : zone_beneath s x y ≡ z
    pub from_overhead : zone_overhead s x y ≡ z
    pub from_beneath_west : Inland x → zone_beneath_west s x y ≡ z
    pub from_overhead_west : Inland x → zone_overhead_west s x y ≡ z

  -- the second demand, its first half: on an accepted sheet every point on it is in one thing only, and that is the answer
  abbrev pub OneThingOnly : ℕ → ℕ → Reply → Type 0
  OneThingOnly x y r = Accepted s → OnSheet x y → InOneThing x y r

  -- the second demand, its second half: off every vertex and edge the answer is a zone, and however the point is read it is that zone
  abbrev pub ReadingsAgree : ℕ → ℕ → Reply → Type 0
  ReadingsAgree x y r =
      Accepted s → OnSheet x y → OffVertices x y → OffEdges x y → (z : ℕ) × (r ≡ Ok (Answer.Zone z)) × (ZonesAgree x y z × ReadSo x y z)

  pub on_sheet_says : (x y : ℕ) → Means (on_sheet s x y) ≡ OnSheet x y
  on_sheet_says x y = refl

  pub is_vertex_says : (x y v : ℕ) → Means (is_vertex s x y v) ≡ IsVertex x y v
  is_vertex_says x y v = refl

  pub is_on_says : (x y e : ℕ) → Means (is_on (segment s e) x y) ≡ IsOn x y e
  is_on_says x y e = refl

  pub beneath_says : (x y e : ℕ) → Means (beneath s x y e) ≡ (Covers x e × Under x y e)
  beneath_says x y e = refl

  pub overhead_says : (x y e : ℕ) → Means (overhead s x y e) ≡ (Covers x e × Over x y e)
  overhead_says x y e = refl

  pub beneath_west_says : (x y e : ℕ) → Means (beneath_west s x y e) ≡ (CoversWest x e × Under x y e)
  beneath_west_says x y e = refl

  pub overhead_west_says : (x y e : ℕ) → Means (overhead_west s x y e) ≡ (CoversWest x e × Over x y e)
  overhead_west_says x y e = refl
