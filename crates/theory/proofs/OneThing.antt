-- A point on an accepted sheet is in one thing only, one vertex or one edge or a zone, and the plain reading is that thing.
use mathlib.Core.Path.{◌≡◌, refl, sym, ap, ◌∙◌}
use mathlib.Core.Bool.{true, false, false≢true}
use mathlib.Core.Logic.{◌⊎◌, inl, inr, ⊎_elim}
use Prim.Native.Nat.{ℕ, ◌*◌, ◌<◌}
use native.Mathlib.Nat.{eq-or-lt_of_le, mul-one}
use lib.IntN.{ℤ}
use Rattle.std.specs.Prelude.{Ok}
use Rattle.subdivision.specs.declared.Answer.{Answer}
use Rattle.subdivision.specs.declared.Answer.TheVariants.{Vertex, Edge, Zone}
use Rattle.subdivision.specs.Sheet.{Sheet, shifted, vertex_count, edge_count, zone_count, x_of, y_of, west_of, east_of, segment}
use Rattle.subdivision.specs.Lines.{edge_part, is_on}
use Rattle.subdivision.specs.Accepted.{Accepted}
use Rattle.subdivision.specs.Reading.{on_sheet, is_vertex, zone_beneath, plain_reading}
use Rattle.subdivision.specs.Calls.{reading_under, reading}
use Rattle.subdivision.specs.Placed.{OnSheet, IsVertex, IsOn, OffVertices, OffEdges, InOneThing, ReadBeneath}
use Rattle.theory.proofs.Chains.{accepted_above}
use Rattle.theory.proofs.ColumnFans.{fan_level}
use Rattle.theory.proofs.Crossings.{IsEnd}
use Rattle.theory.proofs.Decide.{held}
use Rattle.theory.proofs.Judgement.{accepted_decides}
use Rattle.theory.proofs.Scale.{scaled, level, OneScale}
use Rattle.theory.proofs.Scaling.{one_scale}
use Rattle.theory.proofs.NoCrossing.{no_crossing}
use Rattle.theory.proofs.Repeats.{same_point_lem}
use Rattle.theory.proofs.Drawn.{accepted_drawn}
use Rattle.theory.proofs.Nodes.{node_apart}
use Rattle.theory.proofs.Places.{first_is_zone}
use Rattle.theory.proofs.Searches.{by_search}
use Rattle.theory.proofs.Readings.{zone_beneath_read}
use Rattle.theory.proofs.Transects.{corner, passing, LevelNode}

-- what holds of each vertex that is the point, of each edge that it lies on where it is no vertex, and of the zone read from beneath where it is neither, holds of the plain reading
pub by_plain : (s : Sheet) (x y : ℕ) (Q : Answer → Type 0)
    → ((v : ℕ) → v < vertex_count s → IsVertex s x y v → Q (Vertex v))
    → (OffVertices s x y → (e : ℕ) → e < edge_count s → IsOn s x y e → Q (Edge e))
    → (OffVertices s x y → OffEdges s x y → Q (Zone (zone_beneath s x y)))
    → Q (plain_reading s x y)
unfolding plain_reading
by_plain s x y Q f g h =
    by_search (is_vertex s x y) (vertex_count s) Q Vertex _ f
    (λ n. by_search (λ e. is_on (segment s e) x y) (edge_count s) Q Edge (Zone (zone_beneath s x y)) (g n) (h n))

module _ (s : Sheet) (a : Accepted s) where
  scale : OneScale s
  scale = one_scale s a.two

  -- rule 1: a point is one vertex at most
  vertex_one : (x y u v : ℕ) → u < vertex_count s → v < vertex_count s → IsVertex s x y u → IsVertex s x y v → u ≡ v
  vertex_one x y u v b c i j = same_point_lem s a.one u v b c (i.0 ∙ sym j.0) (i.1 ∙ sym j.1)

  -- where a point on an edge has the abscissa of one of the edge's ends, that end is the point
  pub end_here : (x y v e : ℕ) → e < edge_count s → IsOn s x y e → x_of s v ≡ x → IsEnd s v e → IsVertex s x y v
  end_here x y v e b i q d = (q, scale.level_same (y_of s v) y (sym (height d) ∙ (scale.on_level e x y b).0 i.1))
    where
      height : IsEnd s v e → scaled s (2 * x) e ≡ level s (y_of s v)
      height (inl w) = fan_level s a.two true x v e q (b, w)
      height (inr w) = fan_level s a.two false x v e q (b, w)

  -- an edge through a vertex ends there: one that passed would be as high as the vertex
  vertex_ends : (x y v e : ℕ) → v < vertex_count s → IsVertex s x y v → e < edge_count s → IsOn s x y e → IsEnd s v e
  vertex_ends x y v e c j b i = go (eq-or-lt_of_le i.0.0) (eq-or-lt_of_le i.0.1)
    where
      level_there : LevelNode s x (corner v) (passing e)
      level_there = rw (j.1, mul-one (edge_part (segment s e) x)) i.1

      go : (x_of s (west_of s e) ≡ x) ⊎ (x_of s (west_of s e) < x) → (x ≡ x_of s (east_of s e)) ⊎ (x < x_of s (east_of s e)) → IsEnd s v e
      go (inl w) m = inl (vertex_one x y (west_of s e) v (a.two.0 e b).0.0 c (end_here x y (west_of s e) e b i w (inl refl)) j)
      go (inr l) (inl w) = inr (vertex_one x y (east_of s e) v (a.two.0 e b).0.1 c (end_here x y (east_of s e) e b i (sym w) (inr refl)) j)
      go (inr l) (inr m) = let one = node_apart s (accepted_drawn s a) x (corner v) (passing e) (c, j.0) (b, (l, m)) level_there in absurd (false≢true cc)

  -- an edge through a point that is no vertex is the only one
  edge_one : (x y e f : ℕ) → OffVertices s x y → e < edge_count s → f < edge_count s → IsOn s x y e → IsOn s x y f → e ≡ f
  edge_one x y e f off b c i j =
      ⊎_elim (λ q. q) (λ v. absurd (off v.0 v.1 (end_here x y v.0 e b i v.2 v.3.0)))
      ((no_crossing s a.one a.two a.four).meet x e f (b, i.0) (c, j.0) ((scale.on_level e x y b).0 i.1 ∙ sym ((scale.on_level f x y c).0 j.1)))

  -- a vertex that is the point is the plain reading
  pub vertex_plain : (x y v : ℕ) → v < vertex_count s → IsVertex s x y v → Vertex v ≡ plain_reading s x y
  vertex_plain x y v b i =
      by_plain s x y (λ r. Vertex v ≡ r) (λ u c j. ap Vertex (vertex_one x y v u b c i j)) (λ n e c j. absurd (n v b i)) (λ n m. absurd (n v b i))

  -- an edge through the point, neither end of which is the point, is the plain reading
  pub edge_plain : (x y e : ℕ) → e < edge_count s → IsOn s x y e → (IsVertex s x y (west_of s e) → ⊥) → (IsVertex s x y (east_of s e) → ⊥)
      → Edge e ≡ plain_reading s x y
  edge_plain x y e b i west east =
      by_plain s x y (λ r. Edge e ≡ r)
      (λ v c j. ⊎_elim (λ (q : west_of s e ≡ v). absurd (west (rw q j))) (λ (q : east_of s e ≡ v). absurd (east (rw q j))) (vertex_ends x y v e c j b i))
      (λ n f c j. ap Edge (edge_one x y e f n b c i j)) (λ n m. absurd (m e b i))

  -- a zone read from beneath is a zone of the sheet
  read_below : (x y z : ℕ) → ReadBeneath s x y z → z < zone_count s
  read_below x y z (inl e) = rw e.2.1 (accepted_above s a e.0 e.1)
  read_below x y z (inr m) = rw m.1 (first_is_zone s a)

  -- the plain reading is the one thing that the point is in
  pub one_thing : (x y : ℕ) → OnSheet s x y → InOneThing s x y (Ok (plain_reading s x y))
  one_thing x y o =
      by_plain s x y (λ r. InOneThing s x y (Ok r)) (λ v b i. ((b, i), (λ u c j. vertex_one x y u v c b j i, λ e c o. vertex_ends x y v e b i c o))) on_edge (λ n m. (n, (m, zone)))
    where
      on_edge : OffVertices s x y → (e : ℕ) → e < edge_count s → IsOn s x y e → InOneThing s x y (Ok (Edge e))
      on_edge n e b i = (n, ((b, i), λ f c j. edge_one x y f e n c b j i))

      zone : zone_beneath s x y < zone_count s
      zone = read_below x y (zone_beneath s x y) ((zone_beneath_read s a x y o (zone_beneath s x y)).1 refl)

  -- the call of the plain reading gives it for every point that is on the sheet
  pub accepted_reads : (x y : ℤ) → OnSheet s (shifted x) (shifted y) → reading s x y ≡ Ok (plain_reading s (shifted x) (shifted y))
  unfolding reading
  accepted_reads x y o = rw ((accepted_decides s).1 a, held (on_sheet s (shifted x) (shifted y)) o, reading_under)
