-- The fans of the two sides are those of the tables.
use Rattle.std.proofs.Common.{ap, ap₂, ◌∙◌, not, Bool, List, ℕ}
use Rattle.subdivision.specs.Formula.{holds}
use Rattle.fans.specs.Fans.{fan_of, vertex_tied, vertex_fault}
use Rattle.fans.proofs.is_untied.Goals as goal

pub returns : goal.returns
unfolding vertex_fault
returns c =
    let s = c.args.sides in
    let fan = λ (edges : List ℕ) (eastern : Bool). fan_of edges eastern c.args.v in
    let western = c.fan.ensures ∙ ap₂ fan s.western_of.0 s.western_of.1 in
    let eastern = c.fan-2.ensures ∙ ap₂ fan s.eastern_of.0 s.eastern_of.1 in
    ap not (c.vertex_tied.ensures ∙ ap₂ (λ (w e : List ℕ). holds (vertex_tied s.tables.vertices.now s.tables.edges.now w e)) western eastern)
