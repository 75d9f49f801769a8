-- The mark tells whether the zone is queued.
use Rattle.std.proofs.Common.{arith}
use Rattle.circles.proofs.Queued.{mark_tells}
use Rattle.circles.proofs.queue.Queue.has.Goals as goal

pub returns : goal.returns
returns c =
    let s = c.args.self.now in
    mark_tells s.marks s.zones s.count c.args.zone s.looking (omega arith)
