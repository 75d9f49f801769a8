-- What a call of the month gives: the lengths of its two lists, or a refusal.
use Rattle.std.specs.Prelude.{ℕ, Result, Ok}
use Rattle.subdivision.specs.declared.Refused.{Refused}
use Rattle.ledger.specs.declared.Listed.{Listed}

-- what a month gives back beside the lists, the zone results and the means
abbrev pub Month : Type 0
Month = Result Listed Refused

-- a judged month: so many samples on a boundary, and so many off the sheet
abbrev pub listed : ℕ → ℕ → Month
listed boundary off = Ok (record { boundary = boundary; off = off })
