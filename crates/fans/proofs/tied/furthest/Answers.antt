use Rattle.std.proofs.Common.{◌∙◌, get_or, rules}
use Rattle.std.proofs.lemmas.Iterator.{YieldsList-from_slice}
use Rattle.std.proofs.lemmas.Iterator.Consumers.{fold_from_yields_List}
use Rattle.fans.proofs.Walks.{further, fold_furthest}
use Rattle.fans.proofs.tied.furthest.Goals as goal

pub returns : goal.returns
returns c =
    let a = c.args in
    let t = a.tables in
    rw c.word.ensures at (fold_from_yields_List _ (further t.vertices.now t.edges.now a.eastern a.up) _ _ c.fold.ensures.ran (YieldsList-from_slice a.fan.now cc) (λ best x b q k. search rules))
    ∙ fold_furthest t.vertices.now t.edges.now a.eastern a.up (get_or a.fan.now 0 0) a.fan.now
