-- Worked months on the lens sheet of document 01, computed from the definitions that the month's contract cites.
use Rattle.std.specs.Prelude.{◌≡◌, refl, List, [], ◌∷◌, ℕ, pos, Float, set, take, Ok, Err}
use Rattle.std.specs.Float.{nan, binary64}
use Rattle.std.specs.Float.Ieee.{add, div, lt, le, of_int, of_bits}
use Rattle.subdivision.specs.Results.{Reply, refused, reply_of}
use Rattle.subdivision.specs.Dyadic.{bits, top_bit, low_bit, lca}
use Rattle.subdivision.specs.Lowest.{lowest}
use Rattle.subdivision.specs.Sheet.{Sheet, sheet_of}
use Rattle.subdivision.specs.Descent.{descent, index_descent}
use Rattle.subdivision.specs.Calls.{searching}
use Rattle.subdivision.specs.WorkedTable.{lens, lens_index}
use Rattle.ledger.specs.Results.{Month, listed}
use Rattle.ledger.specs.Readings.{nothing, in_range, reading_of}
use Rattle.ledger.specs.Tallies.{judge}
use Rattle.ledger.specs.Months.{Samples, Lent, lent_of, searched_at, month_by, month_of}
use Rattle.ledger.specs.Promises.{left_of}

-- 0.1 mg/L as a double
abbrev pub one_tenth : Float
one_tenth = of_bits binary64 0x3fb9_9999_9999_999a

-- 0.2 mg/L
abbrev pub two_tenths : Float
two_tenths = of_bits binary64 0x3fc9_9999_9999_999a

-- 0.3 mg/L
abbrev pub three_tenths : Float
three_tenths = of_bits binary64 0x3fd3_3333_3333_3333

-- seven samples: 0.1, 0.2 and 0.3 in zone 1, the last below detection; one on vertex 1, one on edge 0, one off the sheet, one not taken
unfoldable pub samples : Samples
samples =
    record {
      points = pos 2 ∷ pos 0 ∷ pos 2 ∷ pos 2 ∷ pos 2 ∷ pos 0 ∷ pos 1 ∷ pos 1 ∷ pos 9 ∷ pos 9 ∷ pos 1 ∷ pos 5 ∷ pos 2 ∷ pos 0 ∷ [];
      kinds = 1 ∷ 1 ∷ 1 ∷ 2 ∷ 1 ∷ 0 ∷ 2 ∷ [];
      values = one_tenth ∷ three_tenths ∷ two_tenths ∷ three_tenths ∷ three_tenths ∷ nan ∷ three_tenths ∷ [];
    }

-- permits of 0.2 mg/L for each zone, with floors of 0.3
unfoldable pub permits : List Float
permits = two_tenths ∷ three_tenths ∷ two_tenths ∷ three_tenths ∷ two_tenths ∷ three_tenths ∷ []

-- lent words
unfoldable pub lent : Lent
lent = lent_of (90 ∷ 91 ∷ 92 ∷ 93 ∷ 94 ∷ 95 ∷ 96 ∷ []) (80 ∷ 81 ∷ 82 ∷ 83 ∷ 84 ∷ 85 ∷ 86 ∷ []) (70 ∷ 71 ∷ 72 ∷ 73 ∷ 74 ∷ 75 ∷ 76 ∷ 77 ∷ 78 ∷ 79 ∷ []) (one_tenth ∷ one_tenth ∷ one_tenth ∷ one_tenth ∷ [])

-- the month: two samples on boundaries, one off the sheet; zone 1 has three, one below detection, and is over by its last bit, which depends on the order
pub worked_month
    : month_of lens lens_index samples permits lent
    ≡ left_of (listed 2 1) (1 ∷ 3 ∷ 92 ∷ 93 ∷ 94 ∷ 95 ∷ 96 ∷ []) (4 ∷ 81 ∷ 82 ∷ 83 ∷ 84 ∷ 85 ∷ 86 ∷ [])
    (0 ∷ 0 ∷ 0 ∷ 3 ∷ 1 ∷ 2 ∷ 0 ∷ 0 ∷ 0 ∷ 79 ∷ []) (one_tenth ∷ of_bits binary64 0x3fc9_9999_9999_999b ∷ one_tenth ∷ one_tenth ∷ [])
unfolding samples permits lent lens lens_index month_by searched_at searching descent index_descent bits top_bit low_bit lca lowest in_range reading_of judge add div lt le of_int of_bits
worked_month = refl

-- ---- the same month with one fault

-- what the month says of these tables, words, samples and permits
abbrev says : Sheet → List ℕ → Samples → List Float → Lent → Month
says s index t p l = (month_of s index t p l).month

-- its samples with another kind or value at a place
abbrev with_kind : ℕ → ℕ → Samples
with_kind k kind = record { points = samples.points; kinds = set samples.kinds k kind; values = samples.values }

abbrev with_value_at : ℕ → Float → Samples
with_value_at k value = record { points = samples.points; kinds = samples.kinds; values = set samples.values k value }

-- each refusal in the order in which they are given: no zones, margins exchanged, an index one word short, a boundary list one word short, a permit of
-- 0, a value of 0, not-a-number, an unknown kind, a word of the index that is no edge, a detection limit above the floor
pub worked_refusals
    : says (sheet_of (pos 0) (pos 4) lens.vertices lens.edges 0) lens_index samples permits lent
    ∷ says (sheet_of (pos 4) (pos 0) lens.vertices lens.edges 3) lens_index samples permits lent
    ∷ says lens (take 13 lens_index) samples permits lent
    ∷ says lens lens_index samples permits (lent_of (90 ∷ 91 ∷ 92 ∷ 93 ∷ 94 ∷ 95 ∷ []) lent.off lent.results lent.means)
    ∷ says lens lens_index samples (set permits 3 nothing) lent
    ∷ says lens lens_index (with_value_at 3 nothing) permits lent
    ∷ says lens lens_index (with_value_at 4 nan) permits lent
    ∷ says lens lens_index (with_kind 5 3) permits lent
    ∷ says lens (set lens_index 13 9) samples permits lent
    ∷ says lens lens_index (with_value_at 6 (of_bits binary64 0x3fd3_3333_3333_3334)) permits lent
    ∷ []
    ≡ refused 1 0 ∷ refused 2 0 ∷ refused 3 0 ∷ refused 43 0 ∷ refused 42 1 ∷ refused 40 3 ∷ refused 40 4 ∷ refused 40 5 ∷
    refused 22 0 ∷ refused 41 6 ∷ []
unfolding samples permits lent lens lens_index month_by searched_at searching descent index_descent bits top_bit low_bit lca lowest in_range reading_of judge add div lt le of_int of_bits
worked_refusals = refl
