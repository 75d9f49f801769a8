-- A reading of a point chooses among the edges seen in a column: it finds one edge, and the zone read is the computed one.
use mathlib.Core.Path.{◌≡◌, refl}
use mathlib.Core.Logic.{inl, inr, ◌↔◌}
use Prim.Native.Nat.{ℕ, ◌<◌}
use Rattle.subdivision.specs.Formula.{Formula, both, implies, not_so, every_below, Means}
use Rattle.subdivision.specs.Sheet.{Sheet, edge_count}
use Rattle.subdivision.specs.Reading.{read_from}
use Rattle.subdivision.specs.Placed.{ReadFrom}
use Rattle.theory.proofs.Columns.{InColumn}
use Rattle.theory.proofs.Drawn.{drawing_of}
use Rattle.theory.proofs.SideViews.{SideView}
use Rattle.theory.proofs.ColumnReadings.{ReadIn}
use Rattle.theory.proofs.ReadFrom.{read_is_computed}

-- the edges of a set are those seen in a column, the edge found among them is the one found in the column, and where one is seen just one is found
pub record Sight (s : Sheet) (column : ℕ) (among is_found : ℕ → Formula) (Seen Found : ℕ → Type 0) : Type 0 where
  pub seen : (e : ℕ) → e < edge_count s → Means (among e) ↔ (InColumn (drawing_of s) column e × Seen e)
  pub found : (e : ℕ) → e < edge_count s → Means (is_found e) ↔ Found e
  pub of_set : (e : ℕ) → Means (is_found e) → Means (among e)
  pub has : (e : ℕ) → InColumn (drawing_of s) column e → Seen e → (f : ℕ) × (f < edge_count s) × Found f
  pub one : (e f : ℕ) → Found e → Found f → e ≡ f

module _ {s : Sheet} {column : ℕ} {among is_found : ℕ → Formula} {Seen Found : ℕ → Type 0} (sight : Sight s column among is_found Seen Found) where
  -- two edges found are one
  pub sight_one : (e f : ℕ) → e < edge_count s → f < edge_count s → Means (is_found e) → Means (is_found f) → e ≡ f
  sight_one e f b c m n = sight.one e f ((sight.found e b).0 m) ((sight.found f c).0 n)

  -- the zone read is the computed one
  pub sight_computed : (zone_of : ℕ → ℕ) (other w : ℕ)
      → ReadFrom s (λ e. Means (among e)) (λ e. Means (is_found e)) zone_of other w ↔ (w ≡ read_from s is_found zone_of other)
  sight_computed = read_is_computed s among is_found there sight.of_set sight_one
    where
      there : (e : ℕ) → e < edge_count s → Means (among e) → (f : ℕ) × (f < edge_count s) × Means (is_found f)
      there e b m =
          let i = (sight.seen e b).0 m in
          let f = sight.has e i.0 i.1 in
          (f.0, f.1, (sight.found f.0 f.1).1 f.2)

  -- the computed zone is read in the column
  pub sight_read : (zone_of : ℕ → ℕ) (other : ℕ) → ReadIn (drawing_of s) column Seen Found zone_of other (read_from s is_found zone_of other)
  sight_read zone_of other = go ((sight_computed zone_of other (read_from s is_found zone_of other)).1 refl)
    where
      go : {z : ℕ} → ReadFrom s (λ e. Means (among e)) (λ e. Means (is_found e)) zone_of other z → ReadIn (drawing_of s) column Seen Found zone_of other z
      go (inl e) = inl (e.0, (sight.found e.0 e.1).0 e.2.0, e.2.1)
      go (inr n) = inr (λ g i o. n.0 g i.0 ((sight.seen g i.0).1 (i, o)), n.1)

-- edges on one side of a point, seen in the column of a view, and ordered on its half line
module _ {s : Sheet} {x line : ℕ} {cover : ℕ → Formula} (v : SideView s x cover line)
    (side : ℕ → Formula) (further : ℕ → ℕ → Formula) (Seen : ℕ → Type 0) (Before : ℕ → ℕ → Type 0)
    (side_seen : (e : ℕ) → e < edge_count s → Means (side e) ↔ Seen e)
    (not_further : (e f : ℕ) → e < edge_count s → f < edge_count s → (Means (further e f) → ⊥) ↔ Before f e)
  where
    -- edge e has the view's cover and is on that side
    abbrev among : ℕ → Formula
    among e = both (cover e) (side e)

    -- edge e is such an edge, and no such edge is further
    abbrev is_found : ℕ → Formula
    is_found e = both (among e) (every_below (edge_count s) (λ f. implies (among f) (not_so (further e f))))

    -- edge e is seen in the column, and every edge seen there is before it
    abbrev Found : ℕ → Type 0
    Found e =
        (InColumn (drawing_of s) v.column e × Seen e)
        × ((g : ℕ) → InColumn (drawing_of s) v.column g → Seen g → Before g e)

    among_seen : (e : ℕ) → e < edge_count s → Means (among e) ↔ (InColumn (drawing_of s) v.column e × Seen e)
    among_seen e b = (λ m. ((b, (v.crosses e b).0 m.0), (side_seen e b).0 m.1), λ i. ((v.crosses e b).1 i.0.1, (side_seen e b).1 i.1))

    found_seen : (e : ℕ) → e < edge_count s → Means (is_found e) ↔ Found e
    found_seen e b = (
      λ m. ((among_seen e b).0 m.0, λ g i o. (not_further e g b i.0).0 (m.1 g i.0 ((among_seen g i.0).1 (i, o)))),
      λ f. ((among_seen e b).1 f.0, λ g h m. (not_further e g b h).1 (f.1 g ((among_seen g h).0 m).0 ((among_seen g h).0 m).1)),
    )

    -- a column with an edge seen has one found, and only one as no two edges are each before the other
    pub sight_of : ((e : ℕ) → InColumn (drawing_of s) v.column e → Seen e → (f : ℕ) × Found f)
        → ((e f : ℕ) → InColumn (drawing_of s) v.column e → InColumn (drawing_of s) v.column f → Before e f → Before f e → e ≡ f)
        → Sight s v.column among is_found Seen Found
    sight_of has apart =
        record {
          seen = among_seen;
          found = found_seen;
          of_set = λ e m. m.0;
          has = λ e i o. let f = has e i o in (f.0, f.1.0.0.0, f.1);
          one = λ e f p q. apart e f p.0.0 q.0.0 (q.1 e p.0.0 p.0.1) (p.1 f q.0.0 q.0.1);
        }
