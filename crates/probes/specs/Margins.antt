-- Tables with their margins shifted.
use Rattle.std.specs.Prelude.{true, false, List, ℕ, ◌+◌, ◌-◌, leb, ℤ, pos, negsuc}
use Rattle.subdivision.specs.Limits.{origin}
use Rattle.subdivision.specs.Sheet.{Sheet, sheet_of}

-- the signed number that is shifted to c
abbrev pub unshifted : ℕ → ℤ
unshifted c = elim (leb origin c) [ true ↦ pos (c - origin) | false ↦ negsuc (origin - (c + 1)) ]

-- the sheet of lent tables whose margins are shifted already
abbrev pub sheet_at : ℕ → ℕ → List ℤ → List ℕ → ℕ → Sheet
sheet_at west east vertices edges zones = sheet_of (unshifted west) (unshifted east) vertices edges zones
