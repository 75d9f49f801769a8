-- Where a set of edges that is not empty has just one found edge, the zone read from it is the computed one.
use mathlib.Core.Path.{◌≡◌, refl, sym, ap, ◌∙◌}
use mathlib.Core.Logic.{inl, inr, ◌↔◌}
use Prim.Native.Nat.{ℕ, ◌<◌}
use Rattle.subdivision.specs.Formula.{Formula, Means}
use Rattle.subdivision.specs.Sheet.{Sheet, edge_count}
use Rattle.subdivision.specs.Reading.{read_from}
use Rattle.subdivision.specs.Placed.{ReadFrom}
use Rattle.theory.proofs.Searches.{by_search}

module _ (s : Sheet) (among is_found : ℕ → Formula)
    (has : (e : ℕ) → e < edge_count s → Means (among e) → (f : ℕ) × (f < edge_count s) × Means (is_found f))
    (of_set : (e : ℕ) → Means (is_found e) → Means (among e))
    (one : (e f : ℕ) → e < edge_count s → f < edge_count s → Means (is_found e) → Means (is_found f) → e ≡ f)
    (zone_of : ℕ → ℕ) (other : ℕ)
  where
    -- zone z is read from an edge of the set
    abbrev IsRead : ℕ → Type 0
    IsRead = ReadFrom s (λ e. Means (among e)) (λ e. Means (is_found e)) zone_of other

    computed_read : IsRead (read_from s is_found zone_of other)
    computed_read =
        by_search is_found (edge_count s) IsRead zone_of other (λ e b m. inl (e, b, (m, refl)))
        (λ none. inr (λ g b m. let f = has g b m in none f.0 f.1 f.2, refl))

    read_one : (z w : ℕ) → IsRead z → IsRead w → z ≡ w
    read_one z w (inl e) (inl f) = e.2.1 ∙ (ap zone_of (one e.0 f.0 e.1 f.1 e.2.0 f.2.0) ∙ sym f.2.1)
    read_one z w (inl e) (inr n) = absurd (n.0 e.0 e.1 (of_set e.0 e.2.0))
    read_one z w (inr n) (inl f) = absurd (n.0 f.0 f.1 (of_set f.0 f.2.0))
    read_one z w (inr n) (inr m) = n.1 ∙ sym m.1

    -- the computed zone, and no other, is read
    pub read_is_computed : (z : ℕ) → IsRead z ↔ (z ≡ read_from s is_found zone_of other)
    read_is_computed z = (λ r. read_one z (read_from s is_found zone_of other) r computed_read, λ i. rw i computed_read)
