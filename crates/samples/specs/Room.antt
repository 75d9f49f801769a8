-- Samples and permits that 43 does not refuse, as the definitions of document 02 speak of them.
use Rattle.std.specs.Prelude.{◌≡◌, true, [], List, ℕ, Float, pos}
use Rattle.subdivision.specs.Formula.{holds}
use Rattle.subdivision.specs.Sheet.{sheet_of}
use Rattle.ledger.specs.Months.{Samples, Lent, samples_of, room_kept}
use Rattle.samples.specs.declared.room.Samples.{Samples as Roomy}
use Rattle.samples.specs.declared.room.Permits.{Permits}

-- the samples of their points, kinds and values
abbrev pub samples_in : Roomy → Samples
samples_in t = samples_of t.points.now t.kinds.now t.values.now

-- 43 does not refuse what is lent, and these are the lent samples and permits
abbrev pub HasRoom : Samples → List Float → ℕ → Lent → Roomy → Permits → Type 0
HasRoom t permits zones lent kept allowed =
    (holds (room_kept t permits (sheet_of (pos 0) (pos 0) [] [] zones) lent) ≡ true)
    × ((samples_in kept ≡ t) × ((allowed.words.now ≡ permits) × (allowed.zones ≡ zones)))
