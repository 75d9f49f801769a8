use Rattle.std.proofs.Common.{arith, sym, ◌∙◌, below_more}
use Rattle.subdivision.specs.Formula.{holds}
use Rattle.subdivision.specs.ZoneLine.{on_circle}
use Rattle.line.specs.Waiting.{zones_of}
use Rattle.theory.proofs.Lowest.{first_at, first_nowhere}
use Rattle.circles.proofs.lowest_on_circle.Goals as goal

pub loop-z-init : goal.loop-z-init
loop-z-init c = λ k h. absurd (omega arith)

pub loop-z-preserved : goal.loop-z-preserved
loop-z-preserved c = below_more _ _ c.loop-z.invariant (sym c.on_circle.ensures ∙ c.if-on_circle.false)

pub returns-then-on_circle : goal.returns-then-on_circle
returns-then-on_circle c =
    first_at (λ z. holds (on_circle (zones_of c.args.edges.now c.args.zones) z)) c.args.zones c.loop-z.z (omega arith) (sym c.on_circle.ensures ∙ c.if-on_circle.true) c.loop-z.invariant

pub returns : goal.returns
returns c =
    first_nowhere (λ z. holds (on_circle (zones_of c.args.edges.now c.args.zones) z)) c.args.zones (λ k h. c.loop-z.invariant k (omega arith))
