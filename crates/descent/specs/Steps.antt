-- The states and steps of the quick search, against those of the defined descent.
use Rattle.std.specs.Prelude.{true, false, List, [], ◌∷◌, ◌++◌, ◌≡◌, ℕ, ◌+◌, leb, ltb, ℤ, pos, get_or, Option, Some, None, Ok}
use Rattle.subdivision.specs.declared.Answer.{Answer}
use Rattle.subdivision.specs.Results.{Search, refused}
use Rattle.subdivision.specs.Layout.{zone_word}
use Rattle.subdivision.specs.Sheet.{Sheet, sheet_of}
use Rattle.subdivision.specs.Descent.{Turn, onward, answered, damaged, on_edge, index_descent}
use Rattle.subdivision.specs.Descent as defined
use Rattle.subdivision.specs.Calls.{search_ended}
use Rattle.probes.specs.declared.Query.{Query}
use Rattle.probes.specs.Asked.{asked}
use Rattle.descent.specs.declared.Descent.{Descent}
use Rattle.descent.specs.declared.Step.{Step}
use Rattle.descent.specs.declared.Step.TheVariants.{Son, Past, On}

-- ---- states and steps

-- the state of the defined descent with the edges examined so far
abbrev pub state_of : Descent → List ℕ → defined.Descent
state_of d trail = record { i = d.i; j = d.j; k = d.k; trail = trail; probes = d.probes }

-- a step as a turn of the defined descent, with the edges examined before it
abbrev pub turn_of : Sheet → ℕ → ℕ → List ℕ → Option Step → Turn
turn_of s x y trail (Some (Son d)) = onward (state_of d trail)
turn_of s x y trail (Some (Past e d)) = onward (state_of d (trail ++ (e ∷ [])))
turn_of s x y trail (Some (On e d)) = answered (on_edge s x y e) (state_of d (trail ++ (e ∷ [])))
turn_of s x y trail None = damaged

-- a step counts the edge that it examines
abbrev pub Counted : Descent → Option Step → Type 0
Counted d (Some (Son next)) = next.examined ≡ d.examined
Counted d (Some (Past e next)) = next.examined ≡ d.examined + 1
Counted d (Some (On e last)) = last.examined ≡ d.examined + 1
Counted d None = Unit {0}

-- past edge e, with i and j as they become there, which may not pass each other
abbrev pub passed : Descent → ℕ → ℕ → ℕ → ℕ → Option Step
passed d e i j probes =
    elim (ltb j i) [ true ↦ None | false ↦ Some (Past e (record { i = i; j = j; k = d.k; examined = d.examined + 1; probes = probes })) ]

-- the answer on an examined edge
abbrev pub answer_on : List ℤ → List ℕ → ℕ → ℕ → ℕ → Answer
answer_on vertices edges x y e = on_edge s x y e
  where
    s : Sheet
    s = sheet_of (pos 0) (pos 0) vertices edges 0

-- what a search finds at i = j
abbrev pub arrived_found : ℕ → List ℕ → Descent → Search
arrived_found zones index d =
    elim (leb zones (get_or index (zone_word zones d.i) 0)) [
      | true ↦ refused 22 0
      | false ↦ Ok (record { answer = Answer.Zone (get_or index (zone_word zones d.i) 0); examined = d.examined; probes = d.probes })
    ]

-- ---- how a descent ends

-- the defined descent for the point asked, over the words of the index
abbrev pub descent_asked : Query → Turn
descent_asked q = index_descent (asked q) q.index.now q.x q.y

-- what a search that ends with this turn gives back
abbrev pub found_by : Turn → Search
found_by t = (search_ended t []).found

-- the edges that it lists
abbrev pub trail_of : Turn → List ℕ
trail_of (onward d) = []
trail_of (answered a d) = d.trail
trail_of damaged = []
