-- When each refusal is given, as a statement: document 01, "Why the desk refuses". No test is mentioned here, only what the rules say.
use Rattle.std.specs.Prelude.{◌≡◌, List, [], ◌∷◌, ◌++◌, ◌⊎◌, ℕ, ◌<◌}
use Rattle.subdivision.specs.Formula.{Formula, Means}
use Rattle.subdivision.specs.Sheet.{Sheet, zone_count}
use Rattle.subdivision.specs.ZoneLine.{OnCircle}
use Rattle.subdivision.specs.Limits.{Limits, limits}
use Rattle.subdivision.specs.Refusals.{Refusal, unnamed, limit_refusals_under, room_refusal, rule_refusals_under, trail_room}
use Rattle.subdivision.specs.Reading.{on_sheet_under, on_sheet}

-- the named item breaks the clause, and no lower one does
pub record LowestFault (clause : ℕ → Formula) (items item : ℕ) : Type 0 where
  pub within : item < items
  pub broken : Means (clause item) → ⊥
  pub lower : (k : ℕ) → k < item → Means (clause k)

-- the item that a line of the table names: 0 where it names none, and otherwise the lowest at fault
abbrev pub Named : Refusal → ℕ → Type 0
Named r item = ((r.items ≡ 0) × (item ≡ 0)) ⊎ LowestFault r.clause r.items item

-- a line's fault is there: what it asks is not kept, and the number and the item are its own
abbrev pub FaultOf : Refusal → ℕ → ℕ → Type 0
FaultOf r number item = (number ≡ r.number) × ((Means r.kept → ⊥) × Named r item)

-- of lines in a call's order, the first whose fault is there gives this number and item: its own fault is there, and no earlier line's is
abbrev pub GivenBy : List Refusal → ℕ → ℕ → Type 0
GivenBy [] number item = ⊥
GivenBy (r ∷ rs) number item = FaultOf r number item ⊎ (Means r.kept × GivenBy rs number item)

-- the zone that refusal 13 names, in document 02's words (P4): it is itself on a circle, and no lower one is
pub record LowestOnCircle (s : Sheet) (z : ℕ) : Type 0 where
  pub there : z < zone_count s
  pub circling : OnCircle s z
  pub lower : (y : ℕ) → y < z → OnCircle s y → ⊥

-- no line's fault is there
abbrev pub AllKept : List Refusal → Type 0
AllKept [] = Unit {0}
AllKept (r ∷ rs) = Means r.kept × AllKept rs

module _ (l : Limits) (s : Sheet) where
  -- the lines of the table that opening checks under limits, in order: 1 to 13
  abbrev pub opening_refusals_under : ℕ → List Refusal
  opening_refusals_under words = limit_refusals_under l s ++ (room_refusal s words ∷ rule_refusals_under s l)

  -- the lines of the table about the tables alone under limits, in order: 1, 2, 4 to 13
  abbrev pub table_refusals_under : List Refusal
  table_refusals_under = limit_refusals_under l s ++ rule_refusals_under s l

  -- the lines of the table that the quick search checks under limits before it reads a word of the index, in order: 1, 2, 3, 20, 21
  abbrev pub search_refusals_under : ℕ → ℕ → ℕ → ℕ → List Refusal
  search_refusals_under words x y places =
      limit_refusals_under l s
      ++ (room_refusal s words ∷ unnamed 20 (on_sheet_under s l x y) ∷ unnamed 21 (trail_room s places) ∷ [])

-- the lines of the table that opening checks, in order: 1 to 13
abbrev pub opening_refusals : Sheet → ℕ → List Refusal
opening_refusals s words = opening_refusals_under limits s words

-- the lines of the table about the tables alone, in order: 1, 2, 4 to 13
abbrev pub table_refusals : Sheet → List Refusal
table_refusals s = table_refusals_under limits s

-- the lines of the table that the plain reading checks, in order: 1, 2, 4 to 13, 20
abbrev pub reading_refusals : Sheet → ℕ → ℕ → List Refusal
reading_refusals s x y = table_refusals s ++ (unnamed 20 (on_sheet s x y) ∷ [])

-- the lines of the table that the quick search checks before it reads a word of the index, in order: 1, 2, 3, 20, 21
abbrev pub search_refusals : Sheet → ℕ → ℕ → ℕ → ℕ → List Refusal
search_refusals s words x y places = search_refusals_under limits s words x y places
