-- What P4 left alone: with another clause for the zone that 13 names, 13 is given exactly when it was, and every other refusal exactly when
-- it was and with the same item.
use mathlib.Core.Path.{◌≡◌}
use mathlib.Core.List.{List, [], ◌∷◌, ◌++◌}
use mathlib.Core.Logic.{inl, inr, ◌↔◌}
use Prim.Native.Nat.{ℕ}
use lib.ListN.{take}
use Rattle.subdivision.specs.Formula.{Formula, Means}
use Rattle.subdivision.specs.Sheet.{Sheet, zone_count}
use Rattle.subdivision.specs.ZoneLine.{rule7}
use Rattle.subdivision.specs.Refusals.{Refusal, names, unnamed, limit_refusals, room_refusal, circle_refusal, rule_refusals}
use Rattle.subdivision.specs.Faults.{Named, GivenBy, AllKept, opening_refusals, table_refusals, reading_refusals}
use Rattle.subdivision.specs.Reading.{on_sheet}
use Rattle.subdivision.specs.Earlier.{earlier_circle_refusal, earlier_table_refusals, earlier_opening_refusals, earlier_reading_refusals, GivenAsBefore}
use Rattle.theory.proofs.CircleZones.{table_lines}
use Rattle.theory.proofs.Faults.{circle_lowest, earlier_lowest}

-- one line in the place of another that is given when it is, with the same number, between the lines before and after it
module _ (number items : ℕ) (kept : Formula) where
  -- the line with this clause for the named item
  abbrev line : (ℕ → Formula) → Refusal
  line clause = record { number = number; kept = kept; clause = clause; items = items }

  module _ (old new : ℕ → Formula) (after : List Refusal) where
    -- another number is given as it was
    other_given : (before : List Refusal) (given item : ℕ) → (given ≡ number → ⊥)
        → GivenBy (before ++ (line old ∷ after)) given item → GivenBy (before ++ (line new ∷ after)) given item
    other_given [] given item d (inl f) = absurd (d f.0)
    other_given [] given item d (inr g) = inr g
    other_given (r ∷ before) given item d (inl f) = inl f
    other_given (r ∷ before) given item d (inr g) = inr (g.0, other_given before given item d g.1)

    -- its own number is given when it was, where the new clause names an item
    own_given : (before : List Refusal) → (AllKept before → (Means kept → ⊥) → (i : ℕ) × Named (line new) i) → (item : ℕ)
        → GivenBy (before ++ (line old ∷ after)) number item → (i : ℕ) × GivenBy (before ++ (line new ∷ after)) number i
    own_given [] some item (inl f) = let n = some tt f.1.0 in (n.0, inl (f.0, (f.1.0, n.1)))
    own_given [] some item (inr g) = (item, inr g)
    own_given (r ∷ before) some item (inl f) = (item, inl f)
    own_given (r ∷ before) some item (inr g) =
        let n = own_given before (λ k. some (g.0, k)) item g.1 in (n.0, inr (g.0, n.1))

module _ (s : Sheet) where
  -- a line 13 names some zone where the lines before it are kept and rule 7 is not
  abbrev Names13 : Refusal → List Refusal → Type 0
  Names13 r before = AllKept before → (Means (rule7 s) → ⊥) → (i : ℕ) × Named r i

  -- the lines as they are against the lines as they were
  as_before : (before after : List Refusal) → Names13 (circle_refusal s) before → Names13 (earlier_circle_refusal s) before
      → GivenAsBefore (before ++ (earlier_circle_refusal s ∷ after)) (GivenBy (before ++ (circle_refusal s ∷ after)))
  as_before before after new old =
      record {
        circle =
            (λ g. own_given 13 (zone_count s) (rule7 s) (circle_refusal s).clause (earlier_circle_refusal s).clause after before old g.0 g.1, λ g. own_given 13 (zone_count s) (rule7 s) (earlier_circle_refusal s).clause (circle_refusal s).clause after before new g.0 g.1);
        others =
            λ number item d. (other_given 13 (zone_count s) (rule7 s) (circle_refusal s).clause (earlier_circle_refusal s).clause after before number item d, other_given 13 (zone_count s) (rule7 s) (earlier_circle_refusal s).clause (circle_refusal s).clause after before number item d);
      }

  table_names : Names13 (circle_refusal s) (table_lines s)
  table_names (k1, (k2, (k4, (k5, (k6, rest))))) f = (names (circle_refusal s), inr (circle_lowest s (λ e h. (k6 e h).1) f))

  table_named : Names13 (earlier_circle_refusal s) (table_lines s)
  table_named (k1, (k2, (k4, (k5, (k6, rest))))) f = (names (earlier_circle_refusal s), inr (earlier_lowest s (λ e h. (k6 e h).1) f))

  pub table_as_before : GivenAsBefore (earlier_table_refusals s) (GivenBy (table_refusals s))
  table_as_before = as_before (table_lines s) [] table_names table_named

  pub reading_as_before : (x y : ℕ) → GivenAsBefore (earlier_reading_refusals s x y) (GivenBy (reading_refusals s x y))
  reading_as_before x y = as_before (table_lines s) (unnamed 20 (on_sheet s x y) ∷ []) table_names table_named

  pub opening_as_before : (words : ℕ) → GivenAsBefore (earlier_opening_refusals s words) (GivenBy (opening_refusals s words))
  opening_as_before words =
      as_before (limit_refusals s ++ (room_refusal s words ∷ take 9 (rule_refusals s))) [] (λ k. table_names (k.0, (k.1.0, k.1.1.1))) (λ k. table_named (k.0, (k.1.0, k.1.1.1)))

-- refusals given as some lines say are given as before where those lines are
pub given_as_before : (now earlier : List Refusal) (Given : ℕ → ℕ → Type 0) → ((number item : ℕ) → Given number item ↔ GivenBy now number item)
    → GivenAsBefore earlier (GivenBy now) → GivenAsBefore earlier Given
given_as_before now earlier Given exactly b =
    record {
      circle = (λ g. b.circle.0 (g.0, (exactly 13 g.0).0 g.1), λ g. back (b.circle.1 g));
      others = λ number item d. (λ g. (b.others number item d).0 ((exactly number item).0 g), λ g. (exactly number item).1 ((b.others number item d).1 g));
    }
  where
    back : (i : ℕ) × GivenBy now 13 i → (i : ℕ) × Given 13 i
    back g = (g.0, (exactly 13 g.0).1 g.1)
