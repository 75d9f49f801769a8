-- The overlap ends at a vertex of the one edge, and the side of that vertex is the order there.
use Rattle.std.proofs.Common.{◌∙◌, ap, arith}
use native.Mathlib.Nat.{max-eq_left, max-eq_right, le_of_lt}
use Rattle.theory.proofs.Heights.{west_end, side_of_end}
use Rattle.geometry.specs.Crossing.{turned}
use Rattle.geometry.proofs.Crossing.{turned_side_of_end}
use Rattle.geometry.proofs.lines.order_west.Goals as goal

pub returns-then-g-h : goal.returns-then-g-h
returns-then-g-h c =
    let a = c.args in
    rw (max-eq_right c.if-g-h.true) (c.side.ensures ∙ side_of_end a.g a.h a.h.xw a.h.yw (omega arith) (west_end a.h))

pub returns : goal.returns
returns c =
    let a = c.args in
    rw (max-eq_left (le_of_lt c.if-g-h.false)) (c.turned.ensures ∙ ap turned c.side-2.ensures ∙ turned_side_of_end a.g a.h a.g.xw a.g.yw (omega arith) (west_end a.g))
