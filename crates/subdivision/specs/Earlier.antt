-- Lines of document 01's table as they stood before a request of document 02 changed them, and what a change left alone.
use Rattle.std.specs.Prelude.{◌≡◌, List, [], ◌∷◌, ◌++◌, ◌↔◌, ℕ, take}
use Rattle.subdivision.specs.Formula.{not_so}
use Rattle.subdivision.specs.Sheet.{Sheet, zone_count}
use Rattle.subdivision.specs.ZoneLine.{rule7, above_circle}
use Rattle.subdivision.specs.Refusals.{Refusal, unnamed, limit_refusals, room_refusal, rule_refusals}
use Rattle.subdivision.specs.Faults.{GivenBy}
use Rattle.subdivision.specs.Reading.{on_sheet}

module _ (s : Sheet) where
  -- refusal 13 before P4: rule 7 can't be kept; named the lowest zone with a circle at it or below it
  abbrev pub earlier_circle_refusal : Refusal
  earlier_circle_refusal = record { number = 13; kept = rule7 s; clause = λ z. not_so (above_circle s z); items = zone_count s }

  -- refusals 4 to 13 before P4, in order
  abbrev pub earlier_rule_refusals : List Refusal
  earlier_rule_refusals = take 9 (rule_refusals s) ++ (earlier_circle_refusal ∷ [])

  -- the lines about the tables alone before P4: 1, 2, 4 to 13
  abbrev pub earlier_table_refusals : List Refusal
  earlier_table_refusals = limit_refusals s ++ earlier_rule_refusals

  -- the lines that opening checked before P4: 1 to 13
  abbrev pub earlier_opening_refusals : ℕ → List Refusal
  earlier_opening_refusals words = limit_refusals s ++ (room_refusal s words ∷ earlier_rule_refusals)

  -- the lines that the plain reading checked before P4: 1, 2, 4 to 13, 20
  abbrev pub earlier_reading_refusals : ℕ → ℕ → List Refusal
  earlier_reading_refusals x y = earlier_table_refusals ++ (unnamed 20 (on_sheet s x y) ∷ [])

-- a call's refusals against the lines as they stood: 13 is given exactly when it was, and every other number exactly when it was and
-- with the same item
pub record GivenAsBefore (earlier : List Refusal) (Given : ℕ → ℕ → Type 0) : Type 0 where
  pub circle : ((item : ℕ) × Given 13 item) ↔ ((item : ℕ) × GivenBy earlier 13 item)
  pub others : (number item : ℕ) → (number ≡ 13 → ⊥) → Given number item ↔ GivenBy earlier number item
