-- The three calls, each with its refusals in order: document 01, "Why the desk refuses".
use Rattle.std.specs.Prelude.{true, false, List, ℕ, ℤ, Ok, Err, length}
use Rattle.subdivision.specs.declared.Answer.{Answer}
use Rattle.subdivision.specs.Results.{Verdict, Reply, Search, passed, refused}
use Rattle.subdivision.specs.Formula.{holds}
use Rattle.subdivision.specs.Sheet.{Sheet, shifted}
use Rattle.subdivision.specs.Limits.{Limits, limits}
use Rattle.subdivision.specs.Refusals.{judged}
use Rattle.subdivision.specs.Faults.{opening_refusals_under, table_refusals_under, search_refusals_under}
use Rattle.subdivision.specs.Reading.{on_sheet_under, plain_reading}
use Rattle.subdivision.specs.Index.{index_words}
use Rattle.subdivision.specs.Lists.{put}
use Rattle.subdivision.specs.Descent.{Descent, Turn, onward, answered, damaged, index_descent_under}

-- what a call of opening leaves: its verdict and the lent index
pub record Opened : Type 0 where
  pub verdict : Verdict
  pub index : List ℕ

-- what a call of the quick search leaves: its result and the lent trail
pub record Searched : Type 0 where
  pub found : Search
  pub trail : List ℕ

-- a refused search: the trail as it was
abbrev pub search_refused : ℕ → ℕ → List ℕ → Searched
search_refused number item trail =
    record { found = refused number item; trail = trail }

-- an answered search: the counts of the descent, and its examined edges written over the front of the trail
abbrev pub search_answered : Answer → Descent → List ℕ → Searched
search_answered a d trail =
    record { found = Ok (record { answer = a; examined = length d.trail; probes = d.probes }); trail = put d.trail trail }

-- the descent's last turn as a search's result; refusal 22 where it is damaged
abbrev pub search_ended : Turn → List ℕ → Searched
search_ended (onward d) trail = search_refused 22 0 trail
search_ended (answered a d) trail = search_answered a d trail
search_ended damaged trail = search_refused 22 0 trail

module _ (l : Limits) (s : Sheet) where
  -- opening, under limits: checks 1 to 13 in this order and then writes the index
  abbrev pub opening_under : List ℕ → Opened
  opening_under index =
      elim (judged (opening_refusals_under l s (length index))) [ Ok u ↦ record { verdict = passed; index = put (index_words s) index } | Err e ↦ record { verdict = Err e; index = index } ]

  -- the plain reading, under limits: checks 1, 2, 4 to 13, 20 and needs no index
  abbrev pub reading_under : ℤ → ℤ → Reply
  reading_under x y =
      elim (judged (table_refusals_under l s)) [
        | Err e ↦ Err e
        | Ok u ↦
            elim (holds (on_sheet_under s l (shifted x) (shifted y))) [ false ↦ refused 20 0 | true ↦ Ok (plain_reading s (shifted x) (shifted y)) ]
      ]

  -- the quick search, under limits: checks 1, 2, 3, 20, 21, and 22 as it goes
  abbrev pub searching_under : List ℕ → ℤ → ℤ → List ℕ → Searched
  searching_under index x y trail =
      elim (judged (search_refusals_under l s (length index) (shifted x) (shifted y) (length trail))) [
        | Err e ↦ search_refused e.number e.item trail
        | Ok u ↦ search_ended (index_descent_under l s index (shifted x) (shifted y)) trail
      ]

module _ (s : Sheet) where
  -- opening checks 1 to 13 in this order and then writes the index
  unfoldable pub opening : List ℕ → Opened
  opening index = opening_under limits s index

  -- the plain reading checks 1, 2, 4 to 13, 20 and needs no index
  unfoldable pub reading : ℤ → ℤ → Reply
  reading x y = reading_under limits s x y

  -- the quick search checks 1, 2, 3, 20, 21, and 22 as it goes
  unfoldable pub searching : List ℕ → ℤ → ℤ → List ℕ → Searched
  searching index x y trail = searching_under limits s index x y trail
