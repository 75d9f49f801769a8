-- A sheet as it is lent, as the definitions of document 01 speak of it.
use Rattle.std.specs.Prelude.{pos}
use Rattle.subdivision.specs.Sheet.{Sheet, sheet_of}
use Rattle.tables.specs.declared.LentSheet.{LentSheet}
use Rattle.tables.specs.declared.Tables.{Tables}

-- the sheet of lent margins, tables and number of zones
abbrev pub lent : LentSheet → Sheet
lent s = sheet_of s.west s.east s.tables.vertices.now s.tables.edges.now s.zones

-- a sheet of lent tables, for what its margins and zones say nothing about
abbrev pub drawn : Tables → Sheet
drawn t = sheet_of (pos 0) (pos 0) t.vertices.now t.edges.now 0
