-- The limits, the room of the index and of what is lent, the permits and the readings refuse in turn.
use Rattle.std.proofs.Common.{◌≡◌, ℕ, Float, List, not, Option, length, arith, sym, ◌∙◌}
use Rattle.subdivision.specs.Formula.{holds}
use Rattle.subdivision.specs.Lowest.{first}
use Rattle.ledger.specs.Months.{Samples, lent_of, reading_at, sample_count}
use Rattle.ledger.specs.Readings.{passes, reading_sound, permit_of, permit_sound}
use Rattle.tables.specs.Lent.{lent}
use Rattle.tallies.specs.Lent.{lent_samples}
use Rattle.samples.specs.Room.{HasRoom}
use Rattle.months.proofs.Lines.{no_index, no_room, by_permit, by_reading, lent_passed}
use Rattle.months.proofs.checks.check_lent.Goals as goal

-- the first permit at fault is that of the lent permits
permit_said : {words permits : List Float} {n zones : ℕ} {r : Option ℕ} → words ≡ permits → n ≡ zones
    → r ≡ first (λ z. not (holds (permit_sound (permit_of words z)))) n → first (λ z. not (holds (permit_sound (permit_of permits z)))) zones ≡ r
permit_said w n e = sym (e ∙ (λ i. first (λ z. not (holds (permit_sound (permit_of (w i) z)))) (n i)))

-- the first reading at fault is that of the lent samples
reading_said : {u t : Samples} {r : Option ℕ} → u ≡ t
    → r ≡ first (λ k. not (holds (passes (reading_sound (reading_at u k))))) (sample_count u) → first (λ k. not (holds (passes (reading_sound (reading_at t k))))) (sample_count t) ≡ r
reading_said t e = sym (e ∙ (λ i. first (λ k. not (holds (passes (reading_sound (reading_at (t i) k))))) (sample_count (t i))))

pub returns-then-index-need : goal.returns-then-index-need
returns-then-index-need c =
    let a = c.args in
    no_index (lent a.sheet) (length a.index.now) (lent_samples a.samples) a.permits.now (lent_of a.boundary.now a.off.now a.results.now a.means.now)
    (sym c.in_ok-limits.ensures) (omega (arith, c.need.ensures, c.edge_count.ensures, c.if-index-need.true))

pub returns-in_default : goal.returns-in_default
returns-in_default c =
    let a = c.args in
    no_room (lent a.sheet) (length a.index.now) (lent_samples a.samples) a.permits.now (lent_of a.boundary.now a.off.now a.results.now a.means.now)
    (sym c.in_ok-limits.ensures) (omega (arith, c.need.ensures, c.edge_count.ensures, c.if-index-need.false)) c.in_default.ensures

pub returns-in-Some-first_bad_permit : goal.returns-in-Some-first_bad_permit
returns-in-Some-first_bad_permit c =
    let a = c.args in
    let h : HasRoom (lent_samples a.samples) a.permits.now a.sheet.zones (lent_of a.boundary.now a.off.now a.results.now a.means.now) c.in-Some.samples c.in-Some.permits = c.in-Some.ensures in
    by_permit (lent a.sheet) (length a.index.now) (lent_samples a.samples) a.permits.now (lent_of a.boundary.now a.off.now a.results.now a.means.now)
    (sym c.in_ok-limits.ensures) (omega (arith, c.need.ensures, c.edge_count.ensures, c.if-index-need.false)) h.0 c.in-Some-first_bad_permit.z
    (permit_said h.1.1.0 h.1.1.1 c.in-Some-first_bad_permit.ensures)

pub returns-in-Some-first_bad_reading : goal.returns-in-Some-first_bad_reading
returns-in-Some-first_bad_reading c =
    let a = c.args in
    let h : HasRoom (lent_samples a.samples) a.permits.now a.sheet.zones (lent_of a.boundary.now a.off.now a.results.now a.means.now) c.in-Some.samples c.in-Some.permits = c.in-Some.ensures in
    by_reading (lent a.sheet) (length a.index.now) (lent_samples a.samples) a.permits.now (lent_of a.boundary.now a.off.now a.results.now a.means.now)
    (sym c.in_ok-limits.ensures) (omega (arith, c.need.ensures, c.edge_count.ensures, c.if-index-need.false)) h.0
    (permit_said h.1.1.0 h.1.1.1 c.in_default-first_bad_permit.ensures) c.in-Some-first_bad_reading.k (reading_said h.1.0 c.in-Some-first_bad_reading.ensures)

pub returns : goal.returns
returns c =
    let a = c.args in
    let h : HasRoom (lent_samples a.samples) a.permits.now a.sheet.zones (lent_of a.boundary.now a.off.now a.results.now a.means.now) c.in-Some.samples c.in-Some.permits = c.in-Some.ensures in (
      lent_passed (lent a.sheet) (length a.index.now) (lent_samples a.samples) a.permits.now (lent_of a.boundary.now a.off.now a.results.now a.means.now)
          (sym c.in_ok-limits.ensures) (omega (arith, c.need.ensures, c.edge_count.ensures, c.if-index-need.false)) h.0
          (permit_said h.1.1.0 h.1.1.1 c.in_default-first_bad_permit.ensures) (reading_said h.1.0 c.in_default-first_bad_reading.ensures),
      h,
    )
