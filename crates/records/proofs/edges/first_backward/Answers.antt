use Rattle.std.proofs.Common.{rules}
use Rattle.theory.proofs.First.{first_in_range}
use Rattle.records.proofs.edges.first_backward.Goals as goal

pub returns : goal.returns
returns c = first_in_range _ _ _ _ _ c.find.ensures.ran (λ x q k. search rules) (λ x q k. search rules)
