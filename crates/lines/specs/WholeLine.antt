-- A whole line of a page: what its bytes are, up to its end.
use Rattle.std.specs.Prelude.{true, false, List, ℕ, suc}
use Rattle.subdivision.specs.Formula.{holds}
use Rattle.frames.specs.declared.Line.{Line}
use Rattle.frames.specs.declared.Line.TheVariants.{Frame, Malformed}
use Rattle.frames.specs.Lines.{kind_at, is_frame}

-- what the bytes from a place to an end are: a frame where they keep what a frame keeps, malformed otherwise
abbrev pub whole_line : List ℕ → ℕ → ℕ → Line
whole_line page at end = elim (holds (is_frame page at end)) [ true ↦ Frame (kind_at page at) (suc end) | false ↦ Malformed ]
