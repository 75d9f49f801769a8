use Rattle.std.proofs.Common.{sym, ap, ◌∙◌, []}
use mir.Facts.{to_z-of_z}
use Rattle.std.proofs.Common.{to_z, of_z, w32, ◌∷◌, ◌++◌}
use Rattle.std.specs.Prelude.{Ok}
use Rattle.subdivision.specs.Sheet.{sheet_of}
use Rattle.subdivision.specs.Answers.{answer_values, found_values}
use Rattle.subdivision.specs.Calls.{searching}
use Rattle.exports.proofs.tw_search.Goals as goal

pub returns-in-Vertex-clause-found : goal.returns-in-Vertex-clause-found
unfolding answer_values found_values
returns-in-Vertex-clause-found c = (λ i. answer_values (Ok (sym c.in-Vertex.is i)) ++ (c.in-Ok.found.examined ∷ c.in-Ok.found.probes ∷ [])) ∙ ap found_values (sym c.in-Ok.is ∙ c.search_point.ensures.found ∙ (λ i. (searching (c.lent.ensures i) c.args.index.now (to_z w32 (of_z w32 c.args.x)) (to_z w32 (of_z w32 c.args.y)) c.args.trail.now).found) ∙ (λ i. (searching (sheet_of (to_z-of_z c.ranges.west i) (to_z-of_z c.ranges.east i) c.args.vertices.now c.args.edges.now c.args.zones) c.args.index.now (to_z-of_z c.ranges.x i) (to_z-of_z c.ranges.y i) c.args.trail.now).found))

pub returns-in-Edge-clause-found : goal.returns-in-Edge-clause-found
unfolding answer_values found_values
returns-in-Edge-clause-found c = (λ i. answer_values (Ok (sym c.in-Edge.is i)) ++ (c.in-Ok.found.examined ∷ c.in-Ok.found.probes ∷ [])) ∙ ap found_values (sym c.in-Ok.is ∙ c.search_point.ensures.found ∙ (λ i. (searching (c.lent.ensures i) c.args.index.now (to_z w32 (of_z w32 c.args.x)) (to_z w32 (of_z w32 c.args.y)) c.args.trail.now).found) ∙ (λ i. (searching (sheet_of (to_z-of_z c.ranges.west i) (to_z-of_z c.ranges.east i) c.args.vertices.now c.args.edges.now c.args.zones) c.args.index.now (to_z-of_z c.ranges.x i) (to_z-of_z c.ranges.y i) c.args.trail.now).found))

pub returns-in-Zone-clause-found : goal.returns-in-Zone-clause-found
unfolding answer_values found_values
returns-in-Zone-clause-found c = (λ i. answer_values (Ok (sym c.in-Zone.is i)) ++ (c.in-Ok.found.examined ∷ c.in-Ok.found.probes ∷ [])) ∙ ap found_values (sym c.in-Ok.is ∙ c.search_point.ensures.found ∙ (λ i. (searching (c.lent.ensures i) c.args.index.now (to_z w32 (of_z w32 c.args.x)) (to_z w32 (of_z w32 c.args.y)) c.args.trail.now).found) ∙ (λ i. (searching (sheet_of (to_z-of_z c.ranges.west i) (to_z-of_z c.ranges.east i) c.args.vertices.now c.args.edges.now c.args.zones) c.args.index.now (to_z-of_z c.ranges.x i) (to_z-of_z c.ranges.y i) c.args.trail.now).found))

pub returns-in-Err-clause-found : goal.returns-in-Err-clause-found
unfolding answer_values found_values
returns-in-Err-clause-found c = ap found_values (sym c.in-Err.is ∙ c.search_point.ensures.found ∙ (λ i. (searching (c.lent.ensures i) c.args.index.now (to_z w32 (of_z w32 c.args.x)) (to_z w32 (of_z w32 c.args.y)) c.args.trail.now).found) ∙ (λ i. (searching (sheet_of (to_z-of_z c.ranges.west i) (to_z-of_z c.ranges.east i) c.args.vertices.now c.args.edges.now c.args.zones) c.args.index.now (to_z-of_z c.ranges.x i) (to_z-of_z c.ranges.y i) c.args.trail.now).found))
