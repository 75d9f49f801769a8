-- The refusals before a sample is placed, in turn.
use mathlib.Core.Path.{◌≡◌, ap, ◌∙◌}
use mathlib.Core.Bool.{true, false, not}
use mathlib.Core.List.{List, [], ◌∷◌}
use Prim.Native.Nat.{ℕ, ◌<◌, ◌≤◌}
use native.Mathlib.Omega.{arith}
use lib.Ieee.{Float}
use Rattle.std.specs.Prelude.{Option, Some, None}
use Rattle.subdivision.specs.Results.{passed, refused}
use Rattle.subdivision.specs.Formula.{Formula, holds}
use Rattle.subdivision.specs.Layout.{index_need}
use Rattle.subdivision.specs.Lowest.{first}
use Rattle.subdivision.specs.Sheet.{Sheet, edge_count, zone_count}
use Rattle.subdivision.specs.Refusals.{Refusal, unnamed, for_each, judged, limit_refusals, room_refusal}
use Rattle.ledger.specs.Readings.{passes, reading_sound, permit_of, permit_sound}
use Rattle.ledger.specs.Months.{Samples, Lent, sample_count, reading_at, room_kept}
use Rattle.theory.proofs.Decide.{held, fails}
use Rattle.theory.proofs.Lowest.{first_some, first_none}
use Rattle.theory.proofs.Judgement.{refused_first, passed_first, judged_unnamed_kept, judged_unnamed_broken, judged_for_each_kept, judged_for_each_broken}
use Rattle.months.specs.Lines.{lent_refusals}

-- a line for each item names the first that breaks its clause
judged_for_each_first : (number items : ℕ) (clause : ℕ → Formula) (rs : List Refusal) (k : ℕ) → first (λ k. not (holds (clause k))) items ≡ Some k
    → judged (for_each number items clause ∷ rs) ≡ refused number k
judged_for_each_first number items clause rs k e =
    let found = first_some (λ k. not (holds (clause k))) items k e in
    judged_for_each_broken number items clause rs (omega (arith, found.0, found.1)) ∙ ap (refused number) found.0

-- and is passed where there is none
judged_for_each_none : (number items : ℕ) (clause : ℕ → Formula) (rs : List Refusal) → first (λ k. not (holds (clause k))) items ≡ None
    → judged (for_each number items clause ∷ rs) ≡ judged rs
judged_for_each_none number items clause rs e = judged_for_each_kept number items clause rs (first_none (λ k. not (holds (clause k))) items e)

module _ (s : Sheet) (words : ℕ) (t : Samples) (permits : List Float) (lent : Lent) where
  -- 40
  abbrev readings : List Refusal
  readings = for_each 40 (sample_count t) (λ k. passes (reading_sound (reading_at t k))) ∷ []

  -- 42, 40
  abbrev allowed : List Refusal
  allowed = for_each 42 (zone_count s) (λ z. permit_sound (permit_of permits z)) ∷ readings

  -- 43, 42, 40
  abbrev own : List Refusal
  own = unnamed 43 (room_kept t permits s lent) ∷ allowed

  -- the lowest zone with a permit outside the range
  abbrev bad_permit : Option ℕ
  bad_permit = first (λ z. not (holds (permit_sound (permit_of permits z)))) (zone_count s)

  -- the lowest sample with a reading at fault
  abbrev bad_reading : Option ℕ
  bad_reading = first (λ k. not (holds (passes (reading_sound (reading_at t k))))) (sample_count t)

  -- 1 and 2
  pub by_limits : (number item : ℕ) → judged (limit_refusals s) ≡ refused number item → judged (lent_refusals s words t permits lent) ≡ refused number item
  by_limits number item e = refused_first (limit_refusals s) (room_refusal s words ∷ own) number item e

  module _ (limits : judged (limit_refusals s) ≡ passed) where
    past_limits : judged (lent_refusals s words t permits lent) ≡ judged (room_refusal s words ∷ own)
    past_limits = passed_first (limit_refusals s) (room_refusal s words ∷ own) limits

    -- 3
    pub no_index : words < index_need (zone_count s) (edge_count s) → judged (lent_refusals s words t permits lent) ≡ refused 3 0
    no_index h = past_limits ∙ judged_unnamed_broken 3 (room_refusal s words).kept own (fails (room_refusal s words).kept (λ k. omega arith))

    module _ (room : index_need (zone_count s) (edge_count s) ≤ words) where
      past_index : judged (lent_refusals s words t permits lent) ≡ judged own
      past_index = past_limits ∙ judged_unnamed_kept 3 (room_refusal s words).kept own (held (room_refusal s words).kept room)

      -- 43
      pub no_room : holds (room_kept t permits s lent) ≡ false → judged (lent_refusals s words t permits lent) ≡ refused 43 0
      no_room e = past_index ∙ judged_unnamed_broken 43 (room_kept t permits s lent) allowed e

      module _ (has : holds (room_kept t permits s lent) ≡ true) where
        past_room : judged (lent_refusals s words t permits lent) ≡ judged allowed
        past_room = past_index ∙ judged_unnamed_kept 43 (room_kept t permits s lent) allowed has

        -- 42
        pub by_permit : (z : ℕ) → bad_permit ≡ Some z → judged (lent_refusals s words t permits lent) ≡ refused 42 z
        by_permit z e = past_room ∙ judged_for_each_first 42 (zone_count s) (λ z. permit_sound (permit_of permits z)) readings z e

        module _ (sound : bad_permit ≡ None) where
          past_permits : judged (lent_refusals s words t permits lent) ≡ judged readings
          past_permits = past_room ∙ judged_for_each_none 42 (zone_count s) (λ z. permit_sound (permit_of permits z)) readings sound

          -- 40
          pub by_reading : (k : ℕ) → bad_reading ≡ Some k → judged (lent_refusals s words t permits lent) ≡ refused 40 k
          by_reading k e = past_permits ∙ judged_for_each_first 40 (sample_count t) (λ k. passes (reading_sound (reading_at t k))) [] k e

          -- none of them
          pub lent_passed : bad_reading ≡ None → judged (lent_refusals s words t permits lent) ≡ passed
          lent_passed e = past_permits ∙ judged_for_each_none 40 (sample_count t) (λ k. passes (reading_sound (reading_at t k))) [] e
