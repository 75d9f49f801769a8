use Rattle.std.proofs.Common.{◌∙◌, rules}
use Rattle.std.proofs.lemmas.Iterator.{YieldsList-from_slice}
use Rattle.std.proofs.lemmas.Iterator.Consumers.{fold_from_yields_List}
use Rattle.fans.specs.Fans.{nearer}
use Rattle.fans.proofs.Walks.{fold_next}
use Rattle.fans.proofs.tied.next_in.Goals as goal

pub returns : goal.returns
returns c =
    let a = c.args in
    let t = a.tables in
    fold_from_yields_List _ (nearer t.vertices.now t.edges.now a.eastern a.e) _ _ c.fold.ensures.ran (YieldsList-from_slice a.fan.now cc) (λ best x b q k. search rules)
    ∙ fold_next t.vertices.now t.edges.now a.eastern a.e a.e a.fan.now
