-- On a sheet that keeps rules 1, 2 and 4 the fault found is the lowest vertex that breaks rule 5.
use Rattle.std.proofs.Common.{ℕ, ◌/◌, length, ap, ◌∙◌, rules}
use Rattle.subdivision.specs.Lowest.{found}
use Rattle.subdivision.specs.Sheet.{shifted}
use Rattle.tables.specs.Lent.{lent}
use Rattle.fans.specs.Fans.{names_fault}
use Rattle.fans.proofs.NamesFault.{names_fault_lowest}
use Rattle.fans.proofs.first_disagreement.Goals as goal

pub returns : goal.returns
returns c =
    let s = lent c.args.sheet in
    let n = length c.args.sheet.tables.vertices.now / 2 in
    c.names_fault.ensures
    ∙ ap (found n) (ap (λ (w : ℕ). names_fault w s.vertices s.edges) (c.shifted.ensures ∙ ap shifted (search rules)) ∙ names_fault_lowest s c.requires.rule1 c.requires.rule2 c.requires.rule4)
