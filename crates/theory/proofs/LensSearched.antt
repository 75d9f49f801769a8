-- The third demand at the lens sheet of document 01: its premises are met there, and it pins the seven rows of the worked table.
use mathlib.Core.Path.{◌≡◌, refl, sym, ap, ◌∙◌}
use mathlib.Core.List.{List, [], ◌∷◌, ◌++◌, map, map-map}
use Prim.Native.Nat.{ℕ, ◌-◌, ◌≤◌}
use native.Mathlib.Nat.{le_refl}
use native.Mathlib.Omega.{arith}
use lib.ListN.{length, take, length-take, length-append}
use Rattle.subdivision.specs.Results.{Verdict, Reply, Search, passed, refused, reply_of, examined_of, probes_of}
use Rattle.subdivision.specs.declared.Answer.{Answer}
use Rattle.std.specs.Prelude.{Ok, Err}
use Rattle.subdivision.specs.Formula.{Formula, is_at_most, both, Means}
use Rattle.subdivision.specs.Lists.{tab}
use Rattle.subdivision.specs.Dyadic.{bits}
use Rattle.subdivision.specs.Sheet.{Sheet, shifted, edge_count, zone_count}
use Rattle.subdivision.specs.Reading.{on_sheet, plain_reading}
use Rattle.subdivision.specs.Descent.{published_descent}
use Rattle.subdivision.specs.Engine.{EngineAnswers, QuickAnswers, ThirdDemand}
use Rattle.subdivision.specs.Calls.{Searched, opening, searching, search_ended}
use Rattle.subdivision.specs.WorkedTable.{lens, Case, lens_cases, computed, searched, expected, worked_table}
use Rattle.std.proofs.lemmas.Bool.{false≢true}
use Rattle.theory.proofs.Decide.{means}
use Rattle.theory.proofs.HeldIndex.{opened_accepted, opened_holds}
use Rattle.theory.proofs.ThirdDemand.{third_demand}

-- a quick search that is not refused, by its parts
search_is : (f : Search) (a : Answer) (n p : ℕ) → reply_of f ≡ Ok a → examined_of f ≡ n → probes_of f ≡ p → f ≡ Ok (record { answer = a; examined = n; probes = p })
search_is (Err e) a n p h i j = absurd (false≢true cc)
search_is (Ok f) a n p h i j = let same : f.answer ≡ a = cc in λ k. Ok (record { answer = same k; examined = i k; probes = j k })

-- what answers as the quick search must is the published descent's end, as a search's result
quick_published : (s : Sheet) (x y : ℕ) (lent : List ℕ) (r : Searched) → QuickAnswers s x y lent r.found r.trail → r ≡ search_ended (published_descent s x y) lent
quick_published s x y lent r q =
    rw q.engine.published (λ i. record { found = search_is r.found (plain_reading s x y) (length q.engine.last.trail) q.engine.last.probes q.engine.plain q.engine.counted q.probed i; trail = q.engine.listed i })

-- the points of these cases are on the lens sheet
abbrev on_lens : List Case → Formula
on_lens [] = is_at_most 0 0
on_lens (c ∷ cs) = both (on_sheet lens (shifted c.x) (shifted c.y)) (on_lens cs)

cases_on_lens : Means (on_lens lens_cases)
unfolding lens lens_cases
cases_on_lens = means (on_lens lens_cases) refl

-- two places are room for a trail
trail_room_lem : (v : ℕ → ℕ) → bits (zone_count lens - 1) ≤ length (tab v 2)
unfolding lens bits tab
trail_room_lem v = le_refl 2

-- whatever engine keeps the third demand at the lens, over the words that opening wrote there, gives the seven rows of document 01
pub lens_searched : (w v : ℕ → ℕ) (engine : Case → Searched)
    → ((c : Case) → ThirdDemand lens (opening lens (tab w 14)).index (shifted c.x) (shifted c.y) (tab v 2) (engine c).found (engine c).trail)
    → map engine lens_cases ≡ map (searched (tab v 2)) lens_cases
unfolding computed expected
lens_searched w v engine demand =
    rows lens_cases cases_on_lens
    ∙ (sym (map-map (λ r. r.published) (computed (tab v 2)) lens_cases)
    ∙ (ap (map (λ r. r.published)) (worked_table v).1
    ∙ map-map (λ r. r.published) (expected (tab v 2)) lens_cases))
  where
    accepted : (opening lens (tab w 14)).verdict ≡ passed
    accepted = ap (λ r. r.verdict) (worked_table w).0

    row : Case → Searched
    row c = search_ended (published_descent lens (shifted c.x) (shifted c.y)) (tab v 2)

    rows : (cs : List Case) → Means (on_lens cs) → map engine cs ≡ map row cs
    rows [] o = refl
    rows (c ∷ cs) o =
        λ i. quick_published lens (shifted c.x) (shifted c.y) (tab v 2) (engine c) (demand c (opened_accepted lens (tab w 14) accepted) (opened_holds lens (tab w 14) accepted) o.0 (trail_room_lem v)) i ∷ rows cs o.1 i

-- the quick search, over the words that opening wrote at the lens, gives the seven rows
pub lens_searching : (w v : ℕ → ℕ) → map (λ c. searching lens (opening lens (tab w 14)).index c.x c.y (tab v 2)) lens_cases ≡ map (searched (tab v 2)) lens_cases
lens_searching w v =
    lens_searched w v (λ c. searching lens (opening lens (tab w 14)).index c.x c.y (tab v 2)) (λ c. third_demand lens (opening lens (tab w 14)).index c.x c.y (tab v 2))

-- a search that lists all edges first, and then walks, breaks at every point of the lens what every engine must answer: its trail is not the descent's
pub scan_first_breaks : (x y examined : ℕ) (lent trail rest : List ℕ) (answer : Reply) → EngineAnswers lens x y lent answer examined trail
    → take examined trail ≡ tab (λ e. e) (edge_count lens) ++ rest → ⊥
unfolding lens bits tab
scan_first_breaks x y examined lent trail rest answer h scan =
    let few : examined ≤ 2 = h.bounded in
    omega (arith, few, sym (length-take examined trail) ∙ (ap length scan ∙ length-append (0 ∷ 1 ∷ 2 ∷ 3 ∷ []) rest))
