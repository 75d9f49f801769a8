-- The loop's invariant: every line before the present one is good, and that one begins at the place. The measure is what is left of the page.
use mathlib.Core.Path.{◌≡◌}
use Prim.Native.Nat.{◌-◌, ◌≤◌}
use lib.ListN.{length}
use Rattle.frames.specs.Lines.{line_start}
use Rattle.frames.specs.Pages.{GoodBefore}
use Rattle.pages.proofs.judging.judge_page.Given as goal

abbrev pub invariant-loop-next : goal.invariant-loop-next
invariant-loop-next l = ((l.at ≡ line_start l.page l.line) × (l.at ≤ length l.page)) × GoodBefore l.page l.line

abbrev pub decreases-loop-next : goal.decreases-loop-next
decreases-loop-next l = length l.page - l.at
