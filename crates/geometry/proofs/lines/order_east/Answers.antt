-- The overlap ends at a vertex of the one edge, and the side of that vertex is the order there.
use Rattle.std.proofs.Common.{◌∙◌, ap, arith}
use native.Mathlib.Nat.{min-eq_left, min-eq_right, le_of_lt}
use Rattle.theory.proofs.Heights.{east_end, side_of_end}
use Rattle.geometry.specs.Crossing.{turned}
use Rattle.geometry.proofs.Crossing.{turned_side_of_end}
use Rattle.geometry.proofs.lines.order_east.Goals as goal

pub returns-then-h-g : goal.returns-then-h-g
returns-then-h-g c =
    let a = c.args in
    rw (min-eq_right c.if-h-g.true) (c.side.ensures ∙ side_of_end a.g a.h a.h.xe a.h.ye (omega arith) (east_end a.h))

pub returns : goal.returns
returns c =
    let a = c.args in
    rw (min-eq_left (le_of_lt c.if-h-g.false)) (c.turned.ensures ∙ ap turned c.side-2.ensures ∙ turned_side_of_end a.g a.h a.g.xe a.g.ye (omega arith) (east_end a.g))
