-- The edges above a zone stand between its start and the next one.
use Rattle.std.proofs.Common.{arith}
use Rattle.line.proofs.Placing.{run_bounds, run_is}
use Rattle.line.proofs.grouped.Groups.run.Goals as goal

pub bounds-self-i : goal.bounds-self-i
bounds-self-i c = omega (arith, run_bounds _ _ _ _ _ c.args.self.grouped.1 c.requires)

pub bounds-self-i-2 : goal.bounds-self-i-2
bounds-self-i-2 c = omega (arith, run_bounds _ _ _ _ _ c.args.self.grouped.1 c.requires)

pub slice_bounds-result-count : goal.slice_bounds-result-count
slice_bounds-result-count c = omega (arith, run_bounds _ _ _ _ _ c.args.self.grouped.1 c.requires)

pub slice_bounds-result-start : goal.slice_bounds-result-start
slice_bounds-result-start c = omega (arith, run_bounds _ _ _ _ _ c.args.self.grouped.1 c.requires)

pub slice_bounds-result-end : goal.slice_bounds-result-end
slice_bounds-result-end c = omega (arith, run_bounds _ _ _ _ _ c.args.self.grouped.1 c.requires)

pub returns : goal.returns
returns c = run_is _ _ _ _ _ c.args.self.grouped.1 c.requires
