-- A zone that is not queued finds a place behind those queued, and its mark is set.
use Rattle.std.proofs.Common.{◌∙◌, sym, ◌<◌, length, take, arith}
use Rattle.theory.proofs.Reached.{with_held}
use Rattle.circles.proofs.Queued.{zone_room, zone_queued, zone_looking}
use Rattle.circles.proofs.queue.Queue.add.Goals as goal

pub bounds-self-self : goal.bounds-self-self
bounds-self-self c =
    let s = c.args.self.now in
    let there : c.args.zone < length s.marks = omega arith in
    omega (arith, zone_room s.marks s.zones s.count c.args.zone s.looking there (sym c.has.ensures ∙ c.if-not-has.true))

pub invariant_of-self : goal.invariant_of-self
invariant_of-self c =
    let s = c.args.self.now in
    let there : c.args.zone < length s.marks = omega arith in
    record { looking = zone_looking s.marks s.zones s.count c.args.zone s.looking there (sym c.has.ensures ∙ c.if-not-has.true) }

pub returns-then-not-has : goal.returns-then-not-has
returns-then-not-has c =
    let s = c.args.self.now in
    let there : c.args.zone < length s.marks = omega arith in
    zone_queued s.marks s.zones s.count c.args.zone s.looking there (sym c.has.ensures ∙ c.if-not-has.true)

pub returns-else-not-has : goal.returns-else-not-has
returns-else-not-has c =
    let s = c.args.self.now in
    sym (with_held (take s.count s.zones) c.args.zone (sym c.has.ensures ∙ c.if-not-has.false))
