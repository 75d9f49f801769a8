-- What a call gives: what was asked, or a refusal with its number and the item that it names.
use Rattle.std.specs.Prelude.{ℕ, Option, Some, Result, Ok, Err}
use Rattle.subdivision.specs.declared.Answer.{Answer}
use Rattle.subdivision.specs.declared.Found.{Found}
use Rattle.subdivision.specs.declared.Probed.{Probed}
use Rattle.subdivision.specs.declared.Refused.{Refused}

-- a refusal: its number, and the item that it names, 0 where it names none
abbrev pub refused : {A : Type 0} → ℕ → ℕ → Result A Refused
refused number item = Err (record { number = number; item = item })

-- what a judgement of the tables, or opening, says of a sheet
abbrev pub Verdict : Type 0
Verdict = Result (Unit {0}) Refused

-- a sheet that is refused nothing
abbrev pub passed : Verdict
passed = Ok tt

-- where a point lies, or why it was not placed
abbrev pub Reply : Type 0
Reply = Result Answer Refused

-- what a quick search gives beside the trail, or why it was refused
abbrev pub Search : Type 0
Search = Result Found Refused

-- where a quick search finds the point
abbrev pub reply_of : Search → Reply
reply_of (Ok f) = Ok f.answer
reply_of (Err e) = Err e

-- the edges that a quick search examines: none where it is refused
abbrev pub examined_of : Search → ℕ
examined_of (Ok f) = f.examined
examined_of (Err e) = 0

-- the probes of a quick search: none where it is refused
abbrev pub probes_of : Search → ℕ
probes_of (Ok f) = f.probes
probes_of (Err e) = 0

-- what the probes of a chain find: this edge, after so many probes
abbrev pub covered : ℕ → ℕ → Option Probed
covered edge probes = Some (record { edge = edge; probes = probes })
