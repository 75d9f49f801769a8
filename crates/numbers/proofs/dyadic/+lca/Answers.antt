-- Near places end the recursion, and the others go on at their halves, by document 01's steps.
use Rattle.std.proofs.Common.{◌+◌, ◌≤◌, arith}
use Rattle.theory.proofs.Dyadic.{lca_next, lca_half, lca_le}
use Rattle.numbers.proofs.dyadic.+lca.Goals as goal
use Rattle.numbers.proofs.dyadic.+lca.Goals.{then-j-i-via-then-j-i, then-j-i-via-else-j-i+then-j-i-eq1}

pub returns-then-j-i : goal.returns-then-j-i
returns-then-j-i t c =
    let near : c.args.j ≤ c.args.i + 1 =
    elim c.then-j-i.branch [ then-j-i-via-then-j-i w ↦ omega arith | then-j-i-via-else-j-i+then-j-i-eq1 w ↦ omega arith ] in
    omega (arith, lca_next _ _ near)

pub overflow_mul-result : goal.overflow_mul-result
overflow_mul-result t c = omega (arith, lca_half c.args.i c.args.j (omega arith), lca_le c.args.i c.args.j)

pub returns : goal.returns
returns t c = omega (arith, lca_half c.args.i c.args.j (omega arith))
