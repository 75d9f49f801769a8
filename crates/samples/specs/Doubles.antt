-- Lists of IEEE 754's doubles.
use Rattle.std.specs.Prelude.{◌≡◌, true, List, ℕ, Float, get_or}
use Rattle.std.specs.Float.{nan, binary64}
use Rattle.std.specs.Float.Ieee.{fits}

-- every entry is a double
abbrev pub Doubles : List Float → Type 0
Doubles values = (k : ℕ) → fits binary64 (get_or values k nan) ≡ true
