-- On the sheet excepted every zone is kept; on another the marks tell of each zone whether an edge names it.
use Rattle.std.proofs.Common.{sym, ◌∙◌}
use Rattle.subdivision.specs.Limits.{max_zones}
use Rattle.marks.proofs.Marks.{unnamed_by_marks, all_named}
use Rattle.marks.proofs.zones.first_unnamed.Goals as goal

pub returns-then-is_excepted : goal.returns-then-is_excepted
returns-then-is_excepted c =
    let tables = c.args.sheet.tables in
    all_named tables.vertices.now tables.edges.now c.args.sheet.zones max_zones (sym c.is_excepted.ensures ∙ c.if-is_excepted.true)

pub returns : goal.returns
returns c =
    let tables = c.args.sheet.tables in
    let zones = c.args.sheet.zones in
    c.first_unmarked.ensures
    ∙ unnamed_by_marks tables.vertices.now tables.edges.now zones max_zones _ _ c.requires.0 (sym c.is_excepted.ensures ∙ c.if-is_excepted.false) c.mark_named.ensures c.mark_named-2.ensures
