-- The first limit that is broken gives its refusal; a refusal that names nothing names 0.
use Rattle.std.proofs.Common.{rules}
use Rattle.tables.specs.Lent.{lent}
use Rattle.sheet.proofs.Unnamed.{counts_broken, margins_broken}
use Rattle.sheet.proofs.limits.Goals as goal

pub returns-then-not-counts_kept : goal.returns-then-not-counts_kept
returns-then-not-counts_kept c = counts_broken (lent c.args.sheet) (search rules)

pub returns-then-not-margins_kept : goal.returns-then-not-margins_kept
returns-then-not-margins_kept c = margins_broken (lent c.args.sheet) (search rules) (search rules)
