-- A month's refusals in two parts: those before a sample is placed, and those after.
use Rattle.std.specs.Prelude.{not, List, [], ◌∷◌, ◌++◌, ℕ, Float}
use Rattle.subdivision.specs.Results.{Reply}
use Rattle.subdivision.specs.Sheet.{Sheet, zone_count}
use Rattle.subdivision.specs.Refusals.{Refusal, unnamed, for_each, limit_refusals, room_refusal}
use Rattle.ledger.specs.Readings.{passes, reading_sound, permit_of, permit_sound}
use Rattle.ledger.specs.Months.{Samples, Lent, sample_count, reading_at, damaged, too_coarse, taken_and, room_kept}

-- the lines before a sample is placed: 1, 2, 3, 43, 42, 40
abbrev pub lent_refusals : Sheet → ℕ → Samples → List Float → Lent → List Refusal
lent_refusals s words t permits lent =
    limit_refusals s
    ++ (room_refusal s words
    ∷ unnamed 43 (room_kept t permits s lent)
    ∷ for_each 42 (zone_count s) (λ z. permit_sound (permit_of permits z))
    ∷ for_each 40 (sample_count t) (λ k. passes (reading_sound (reading_at t k)))
    ∷ [])

-- the lines after: 22, 41
abbrev pub placed_refusals : (ℕ → Reply) → Samples → List Float → List Refusal
placed_refusals answer t permits =
    for_each 22 (sample_count t) (λ k. passes (not (taken_and answer t damaged k)))
    ∷ for_each 41 (sample_count t) (λ k. passes (not (too_coarse permits (reading_at t k) (answer k))))
    ∷ []
