use Rattle.std.proofs.Common.{rules}
use Rattle.line.proofs.Search.{found_in_range}
use Rattle.line.proofs.words.next_ready.Goals as goal

pub returns : goal.returns
returns c = found_in_range _ _ _ _ _ _ c.find.ensures.ran (λ x q k. search rules) (λ x q k. search rules)
