-- Neighbours on a line among a set of edges: document 01, rule 5 and "The plain reading of a point".
use Rattle.std.specs.Prelude.{ℕ}
use Rattle.subdivision.specs.Formula.{Formula, both, implies, not_so, every_below}
use Rattle.subdivision.specs.Sheet.{Sheet, edge_count, segment}
use Rattle.subdivision.specs.Lines.{lower}

module _ (s : Sheet) where
  -- edge e is lower than edge f on the doubled line c
  abbrev pub is_lower : ℕ → ℕ → ℕ → Formula
  is_lower c e f = lower c (segment s e) (segment s f)

  -- e is in the set, and no edge of the set is higher on the line c
  abbrev pub is_highest : ℕ → (ℕ → Formula) → ℕ → Formula
  is_highest c among e = both (among e) (every_below (edge_count s) (λ f. implies (among f) (not_so (is_lower c e f))))

  -- e is in the set, and no edge of the set is lower on the line c
  abbrev pub is_lowest : ℕ → (ℕ → Formula) → ℕ → Formula
  is_lowest c among e = both (among e) (every_below (edge_count s) (λ f. implies (among f) (not_so (is_lower c f e))))

  -- e and f are in the set, e is lower on the line c, and no edge of the set is between them
  abbrev pub is_next_up : ℕ → (ℕ → Formula) → ℕ → ℕ → Formula
  is_next_up c among e f =
      both (both (among e) (among f))
      (both (is_lower c e f) (every_below (edge_count s) (λ g. implies (both (among g) (is_lower c e g)) (not_so (is_lower c g f)))))
