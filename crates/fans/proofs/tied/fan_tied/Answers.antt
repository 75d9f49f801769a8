use Rattle.std.proofs.Common.{◌≡◌, true, false, rules}
use Rattle.std.proofs.lemmas.Iterator.{cases_from_all, YieldsList-from_slice}
use Rattle.subdivision.specs.Formula.{holds}
use Rattle.fans.specs.Fans.{tied}
use Rattle.fans.proofs.Walks.{all_every}
use Rattle.fans.proofs.tied.fan_tied.Goals as goal

pub returns : goal.returns
returns c =
    let a = c.args in
    let formula = tied a.tables.vertices.now a.tables.edges.now a.eastern a.fan.now in
    all_every formula a.fan.now _ (cases_from_all _ _ _ (λ e. holds (formula e) ≡ true) (λ e. holds (formula e) ≡ false) c.all.ensures.ran (YieldsList-from_slice a.fan.now cc) (λ x q k. search rules) (λ x q k. search rules))
