-- The order that the keys give is the one of the points, since each y fits the key's lower half.
use Rattle.std.proofs.Common.{◌≡◌, ℕ, ◌<◌, length, List, sym, subst, rules}
use Rattle.subdivision.specs.Order.{SortedBelow, in_order}
use Rattle.subdivision.specs.Sheet.{vertex_y}
use Rattle.theory.proofs.Order.{sorted_below}
use Rattle.theory.proofs.Repeats.{point_key, sorted_by_point}
use Rattle.repeats.proofs.point_order.Goals as goal

pub returns : goal.returns
returns c =
    let n = length c.args.order.now in
    let key = point_key c.args.vertices.now in
    let order = c.sort_by_key.new.order in
    let ordered : order ≡ in_order key n = c.sort_by_key.ensures.sorted key (λ k r h p. search rules) in
    let once : SortedBelow key n order = subst (λ (l : List ℕ). SortedBelow key n l) (sym ordered) (sorted_below key n) in
    let fits : (v : ℕ) → v < n → vertex_y c.args.vertices.now v < 4294967296 = λ v h. let called = c.sort_by_key.ensures.called v h in search rules in
    record { sorted = ordered; once = once; by_point = sorted_by_point c.args.vertices.now n order fits once; fits = fits }
