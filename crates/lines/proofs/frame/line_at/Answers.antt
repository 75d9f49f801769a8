-- Each answer is the definition's case: nothing left, a line to its newline, no newline.
use mathlib.Core.Path.{◌≡◌, refl, sym, ap, ◌∙◌}
use mathlib.Core.Bool.{Bool}
use mathlib.Core.List.{List}
use Prim.Native.Nat.{ℕ, ◌<◌, ◌≤◌}
use native.Mathlib.Omega.{arith}
use lib.ListN.{length}
use Rattle.std.specs.Prelude.{Option, Some, true, false}
use Rattle.subdivision.specs.Formula.{holds}
use Rattle.subdivision.specs.Lowest.{found}
use Rattle.frames.specs.Lines.{line_end, line_at, is_frame}
use Rattle.theory.proofs.Lowest.{found_some, found_none}
use Rattle.framing.proofs.LineEnds.{at_end, at_unfinished, at_malformed, at_frame, line_end_from}
use Rattle.lines.specs.WholeLine.{whole_line}
use Rattle.lines.proofs.frame.line_at.Goals as goal

-- where a line ends whose newline is found
ended : (page : List ℕ) (at end : ℕ) (r : Option ℕ) → r ≡ found (length page) (line_end page at) → r ≡ Some end
    → (end ≡ line_end page at) × ((at ≤ end) × (end < length page))
ended page at end r e is =
    let s = found_some (length page) (line_end page at) end (sym e ∙ is) in
    (sym s.0, (omega (arith, s.0, line_end_from page at), omega (arith, s.0, s.1)))

-- what stands at a place whose line ends before the page does is that whole line
whole : (page : List ℕ) (at : ℕ) → line_end page at < length page → whole_line page at (line_end page at) ≡ line_at page at
whole page at h = go (holds (is_frame page at (line_end page at))) refl
  where
    go : (b : Bool) → holds (is_frame page at (line_end page at)) ≡ b → whole_line page at (line_end page at) ≡ line_at page at
    go true e = rw (e, whole_line) (sym (at_frame page at h e))
    go false e = rw (e, whole_line) (sym (at_malformed page at h e))

pub returns-then-page-at : goal.returns-then-page-at
returns-then-page-at c = sym (at_end c.args.page.now c.args.at (omega arith))

pub returns-in-None : goal.returns-in-None
returns-in-None c =
    let a = c.args in
    sym (at_unfinished a.page.now a.at (omega arith) (found_none (length a.page.now) (line_end a.page.now a.at) (sym c.line_end.ensures ∙ c.in-None.is)))

pub whole_line-requires : goal.whole_line-requires
whole_line-requires c =
    let e = ended c.args.page.now c.args.at c.in-Some.end c.line_end.result c.line_end.ensures c.in-Some.is in
    (e.1.0, omega (arith, e.1.1))

pub returns-in-Some : goal.returns-in-Some
returns-in-Some c =
    let a = c.args in
    let e = ended a.page.now a.at c.in-Some.end c.line_end.result c.line_end.ensures c.in-Some.is in
    c.whole_line.ensures ∙ ap (whole_line a.page.now a.at) e.0 ∙ whole a.page.now a.at (omega (arith, e.0, e.1.1))
