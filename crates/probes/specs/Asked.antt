-- What a quick search asks and reads, as the definitions of document 01 speak of it.
use Rattle.subdivision.specs.Sheet.{Sheet}
use Rattle.subdivision.specs.Descent.{LookUps, index_look_ups}
use Rattle.probes.specs.declared.Query.{Query}
use Rattle.probes.specs.Margins.{sheet_at}

-- the sheet that is searched
abbrev pub asked : Query → Sheet
asked q = sheet_at q.west q.east q.tables.vertices.now q.tables.edges.now q.zones

-- the look-ups made from the words of its index
abbrev pub looked_up : Query → LookUps
looked_up q = index_look_ups (asked q) q.index.now
