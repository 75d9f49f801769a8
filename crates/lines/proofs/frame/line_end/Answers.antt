-- The first newline of what is left is the line's end; where there is none, the line ends with the page.
use Rattle.std.proofs.Common.{◌≡◌, ◌≢◌, sym, ◌∙◌, arith, tests, rules, List, ℕ, ◌+◌, ◌-◌, ◌<◌, ◌≤◌, length, take, drop, Option, Some, None}
use native.Mathlib.Decide.{dec_lt}
use lib.Seq.{take_all}
use Rattle.std.proofs.lemmas.Iterator.{IsFirst-from_position, YieldsList-from_slice}
use Rattle.std.proofs.lemmas.List.{get_or-drop, length-drop}
use Rattle.std.specs.List.{AllWithin, HoldsAt}
use Rattle.std.specs.Option.{MatchOption}
use Rattle.subdivision.specs.Lowest.{found}
use Rattle.frames.specs.Lines.{newline, line_end}
use Rattle.theory.proofs.Lowest.{found_below, found_past}
use Rattle.framing.proofs.LineEnds.{line_end_first, line_end_from, line_end_newline}
use Rattle.lines.proofs.frame.line_end.Goals as goal

-- what the look at the rest of a page says
abbrev Looked : List ℕ → ℕ → Option ℕ → Type 0
Looked page at r =
    MatchOption r (AllWithin (λ b. b ≢ newline) (drop at page) 0 (length (drop at page)))
    (λ i. (i < length (drop at page)) × (HoldsAt (λ b. b ≡ newline) (drop at page) i) × (AllWithin (λ b. b ≢ newline) (drop at page) 0 i))

-- no newline is left
nowhere : (page : List ℕ) (at : ℕ) (r : Option ℕ) → Looked page at r → r ≡ None → None ≡ found (length page) (line_end page at)
nowhere page at r look e = sym (found_past (length page) (line_end page at) past)
  where
    none : Looked page at None
    none = rw e at look

    past : length page ≤ line_end page at
    past = go (dec_lt (line_end page at) (length page))
      where
        go : Dec (line_end page at < length page) → length page ≤ line_end page at
        go (yes l) =
            let from = line_end_from page at in
            let same : at + (line_end page at - at) ≡ line_end page at = omega arith in
            absurd (rw (get_or-drop at page (line_end page at - at) 0, same) at (none (line_end page at - at) 0 (omega arith) (omega (arith, length-drop at page))) (line_end_newline page at l))
        go (no l) = omega arith

-- a newline is found
here : (page : List ℕ) (at i : ℕ) (r : Option ℕ) → Looked page at r → r ≡ Some i → Some (at + i) ≡ found (length page) (line_end page at)
here page at i r look e =
    let f : Looked page at (Some i) = rw e at look in
    let within : at + i < length page = omega (arith, f.0, length-drop at page) in
    let ends : line_end page at ≡ at + i =
    line_end_first page at i within (λ k h. rw (get_or-drop at page k 0) at (f.2 k 0 (omega arith) h)) (rw (get_or-drop at page i 0) at (f.1 0)) in
    sym (rw ends (found_below (length page) (at + i) within))

-- what is left of the page, as the look goes over it
rest : (page : List ℕ) (at : ℕ) → take (length page - at) (drop at page) ≡ drop at page
rest page at = take_all (length page - at) (drop at page) (omega (arith, length-drop at page))

pub returns-in_err-past : goal.returns-in_err-past
returns-in_err-past c =
    let a = c.args in
    let told = IsFirst-from_position _ _ c.position.result (λ b. b ≡ newline) (λ b. b ≢ newline) c.position.ensures.ran (YieldsList-from_slice (drop a.at a.page.now) (c.iter.ensures.rest ∙ rest a.page.now a.at)) (λ x q k. search (rules, tests)) (λ x q k. search (rules, tests)) in
    c.from_residual.ensures ∙ nowhere a.page.now a.at c.position.result told c.in_err-past.was

pub returns : goal.returns
returns c =
    let a = c.args in
    let told = IsFirst-from_position _ _ c.position.result (λ b. b ≡ newline) (λ b. b ≢ newline) c.position.ensures.ran (YieldsList-from_slice (drop a.at a.page.now) (c.iter.ensures.rest ∙ rest a.page.now a.at)) (λ x q k. search (rules, tests)) (λ x q k. search (rules, tests)) in
    here a.page.now a.at c.in_ok-past.past c.position.result told c.in_ok-past.was
