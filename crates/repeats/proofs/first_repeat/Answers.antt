-- Along the order of points the least vertex with the key of the one before it is the first repeat.
use Rattle.std.proofs.Common.{sym, arith}
use Rattle.subdivision.specs.Limits.{max_vertices}
use Rattle.subdivision.specs.Order.{SortedBelow}
use Rattle.theory.proofs.Lists.{zeros_part}
use Rattle.theory.proofs.Repeats.{point_key, fits_one_point, first_least_repeat}
use Rattle.repeats.proofs.first_repeat.Goals as goal

pub returns : goal.returns
returns c =
    let n = c.args.count in
    let order = c.point_order.new.order in
    let long = zeros_part max_vertices n c.requires in
    let once : SortedBelow (point_key c.args.vertices.now) n order = rw (sym long) at c.point_order.ensures.once in
    let one = fits_one_point c.args.vertices.now n order once (λ v h. c.point_order.ensures.fits v (omega (arith, long))) in
    first_least_repeat c.args.vertices.now n order once one c.least_repeat.result c.least_repeat.ensures
