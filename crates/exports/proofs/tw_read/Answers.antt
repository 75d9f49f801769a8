use Rattle.std.proofs.Common.{sym, ap, ◌∙◌}
use mir.Facts.{to_z-of_z}
use Rattle.std.proofs.Common.{to_z, of_z, w32}
use Rattle.std.specs.Prelude.{Ok}
use Rattle.subdivision.specs.Sheet.{sheet_of}
use Rattle.subdivision.specs.Answers.{answer_values}
use Rattle.subdivision.specs.Calls.{reading}
use Rattle.exports.proofs.tw_read.Goals as goal

pub returns-in-Err : goal.returns-in-Err
unfolding answer_values
returns-in-Err c = ap answer_values (sym c.in-Err.is ∙ c.read_point.ensures.answer ∙ (λ i. reading (c.lent.ensures i) (to_z w32 (of_z w32 c.args.x)) (to_z w32 (of_z w32 c.args.y))) ∙ (λ i. reading (sheet_of (to_z-of_z c.ranges.west i) (to_z-of_z c.ranges.east i) c.args.vertices.now c.args.edges.now c.args.zones) (to_z-of_z c.ranges.x i) (to_z-of_z c.ranges.y i)))

pub returns-in-Ok-Vertex : goal.returns-in-Ok-Vertex
unfolding answer_values
returns-in-Ok-Vertex c = (λ i. answer_values (Ok (sym c.in-Ok-Vertex.field-0-is i))) ∙ ap answer_values (sym c.in-Ok-Vertex.is ∙ c.read_point.ensures.answer ∙ (λ i. reading (c.lent.ensures i) (to_z w32 (of_z w32 c.args.x)) (to_z w32 (of_z w32 c.args.y))) ∙ (λ i. reading (sheet_of (to_z-of_z c.ranges.west i) (to_z-of_z c.ranges.east i) c.args.vertices.now c.args.edges.now c.args.zones) (to_z-of_z c.ranges.x i) (to_z-of_z c.ranges.y i)))

pub returns-in-Ok-Edge : goal.returns-in-Ok-Edge
unfolding answer_values
returns-in-Ok-Edge c = (λ i. answer_values (Ok (sym c.in-Ok-Edge.field-0-is i))) ∙ ap answer_values (sym c.in-Ok-Edge.is ∙ c.read_point.ensures.answer ∙ (λ i. reading (c.lent.ensures i) (to_z w32 (of_z w32 c.args.x)) (to_z w32 (of_z w32 c.args.y))) ∙ (λ i. reading (sheet_of (to_z-of_z c.ranges.west i) (to_z-of_z c.ranges.east i) c.args.vertices.now c.args.edges.now c.args.zones) (to_z-of_z c.ranges.x i) (to_z-of_z c.ranges.y i)))

pub returns-in-Ok-Zone : goal.returns-in-Ok-Zone
unfolding answer_values
returns-in-Ok-Zone c = (λ i. answer_values (Ok (sym c.in-Ok-Zone.field-0-is i))) ∙ ap answer_values (sym c.in-Ok-Zone.is ∙ c.read_point.ensures.answer ∙ (λ i. reading (c.lent.ensures i) (to_z w32 (of_z w32 c.args.x)) (to_z w32 (of_z w32 c.args.y))) ∙ (λ i. reading (sheet_of (to_z-of_z c.ranges.west i) (to_z-of_z c.ranges.east i) c.args.vertices.now c.args.edges.now c.args.zones) (to_z-of_z c.ranges.x i) (to_z-of_z c.ranges.y i)))
