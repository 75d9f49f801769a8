-- What a good month promises beside its equation is kept by what it is defined to leave.
use mathlib.Core.Path.{◌≡◌, refl, sym, ap, ◌∙◌, subst}
use mathlib.Core.Bool.{Bool, true, false, false≢true}
use mathlib.Core.List.{List, [], ◌∷◌, ◌++◌}
use mathlib.Core.Logic.{◌⊎◌, inl, inr, ⊎_elim}
use Prim.Native.Nat.{ℕ, zero, suc, ◌+◌, ◌*◌, ◌≤◌, ◌<◌}
use native.Mathlib.Nat.{not-suc-le-zero}
use native.Mathlib.Omega.{arith}
use borrow.Author.Tests.{eq-eqb, ne_eqb}
use lib.Dec.{T, eqb}
use lib.Ieee.{Float, nan, binary64, fits}
use lib.ListN.{length, get_or, drop, replicate, length-append, length-replicate, get_or-append}
use lib.Seq.{get_or_at, get_or-set_same}
use Rattle.std.specs.Prelude.{Ok, Err}
use Rattle.subdivision.specs.Results.{Verdict, Reply, passed, refused, reply_of}
use Rattle.subdivision.specs.declared.Answer.{Answer}
use Rattle.subdivision.specs.Limits.{max_examined}
use Rattle.subdivision.specs.Lists.{put}
use Rattle.subdivision.specs.Sheet.{Sheet, zone_count}
use Rattle.subdivision.specs.Accepted.{Accepted}
use Rattle.subdivision.specs.Engine.{HoldsIndex}
use Rattle.ledger.specs.declared.Tally.{Tally}
use Rattle.ledger.specs.Readings.{taken, enters_at, permit_of}
use Rattle.ledger.specs.Tallies.{none_entered, enter, entering, mean, judge, judgement_word, write_mean}
use Rattle.ledger.specs.Months.{Samples, Lent, sample_count, reading_at, sample_x, sample_y, in_zone, on_boundary, off_sheet, those, taken_and, samples_that}
use Rattle.ledger.specs.Months.{tally_of, judgement_of, zone_results, result_words, means_left, month_by, searched_at, read_at, month_of}
use Rattle.ledger.specs.Promises.{times, sum_below, appearances, OnePlace, CountsSamples, OneValue, Outside, SameInZones}
use Rattle.theory.proofs.Decide.{not_both, below_suc}
use Rattle.theory.proofs.Dyadic.{few_edges}
use Rattle.theory.proofs.ThirdDemand.{searched_is_read_everywhere}
use Rattle.accounting.proofs.Entering.{enters_at_value, enter_counts, entering_counts, entering_same, mean_of_one, mean_written, other_mean, means_length}
use Rattle.accounting.proofs.Those.{times_those, those_only}

-- ---- one place

-- an answer that has a place in a month of n zones: in one of them, on a boundary, or off the sheet
abbrev pub Placed : ℕ → Reply → Type 0
Placed n a = ((z : ℕ) × (z < n) × (a ≡ Ok (Answer.Zone z))) ⊎ ((on_boundary a ≡ true) ⊎ (off_sheet a ≡ true))

-- a test counted: one where it passes
abbrev once : Bool → ℕ
once b = elim b [ true ↦ 1 | false ↦ 0 ]

-- the sum of nothing
sum_nothing : (n : ℕ) → sum_below (λ z. 0) n ≡ 0
sum_nothing zero = refl
sum_nothing (suc n) = omega (arith, sum_nothing n)

-- the numbers below a count that are y are none where y is past it
sum_past : (n y : ℕ) → n ≤ y → sum_below (λ z. once (eqb y z)) n ≡ 0
sum_past zero y h = refl
sum_past (suc n) y h = rw (ne_eqb y n (λ e. omega arith)) (omega (arith, sum_past n y (omega arith)))

-- and one where y is below it
sum_one : (n y : ℕ) → y < n → sum_below (λ z. once (eqb y z)) n ≡ 1
sum_one zero y h = absurd (not-suc-le-zero h)
sum_one (suc n) y h =
    ⊎_elim
    (λ (e : y ≡ n). rw (eq-eqb y n e) (omega (arith, sum_past n y (omega arith))))
    (λ (l : y < n). rw (ne_eqb y n (λ e. omega arith)) (omega (arith, sum_one n y l)))
    (below_suc h)

-- in how many places an answer puts a sample: the zones, the boundary list and the off-sheet list together
abbrev places : ℕ → Reply → ℕ
places n a = sum_below (λ z. once (in_zone z a)) n + (once (on_boundary a) + once (off_sheet a))

-- a boundary is one place
boundary_once : (n : ℕ) (a : Reply) → on_boundary a ≡ true → places n a ≡ 1
boundary_once n (Ok (Answer.Vertex v)) e = omega (arith, sum_nothing n)
boundary_once n (Ok (Answer.Edge f)) e = omega (arith, sum_nothing n)
boundary_once n (Ok (Answer.Zone z)) e = absurd (false≢true e)
boundary_once n (Err r) e = absurd (false≢true e)

-- off the sheet is one place
off_once : (n : ℕ) (a : Reply) → off_sheet a ≡ true → places n a ≡ 1
off_once n (Ok (Answer.Vertex v)) e = absurd (false≢true e)
off_once n (Ok (Answer.Edge f)) e = absurd (false≢true e)
off_once n (Ok (Answer.Zone z)) e = absurd (false≢true e)
off_once n (Err r) e = rw e (omega (arith, sum_nothing n))

-- an answer that has a place has exactly one
placed_once : (n : ℕ) (a : Reply) → Placed n a → places n a ≡ 1
placed_once n a (inl (z, h, e)) = rw e (omega (arith, sum_one n z h))
placed_once n a (inr (inl e)) = boundary_once n a e
placed_once n a (inr (inr e)) = off_once n a e

-- the first of two tests passes where both do
first_passes : (a b : Bool) → ◌≡◌ {A = Bool} (elim a [ true ↦ b | false ↦ false ]) true → a ≡ true
first_passes true b e = refl
first_passes false b e = e

module _ (answer : ℕ → Reply) (t : Samples) where
  -- a taken sample is among those with a test where its answer passes
  times_taken : (test : Reply → Bool) (k : ℕ) → k < sample_count t → taken (reading_at t k) ≡ true
      → times k (samples_that answer t test) ≡ once (test (answer k))
  times_taken test k h e = times_those (taken_and answer t test) (sample_count t) k h ∙ rw e

  -- a sample that was not taken is not among them
  times_untaken : (test : Reply → Bool) (k : ℕ) → k < sample_count t → taken (reading_at t k) ≡ false
      → times k (samples_that answer t test) ≡ 0
  times_untaken test k h e = times_those (taken_and answer t test) (sample_count t) k h ∙ rw e

  -- where each taken sample has a place, it has one, and the others have none
  pub one_place : (n : ℕ) → ((k : ℕ) → k < sample_count t → taken (reading_at t k) ≡ true → Placed n (answer k)) → OnePlace answer t n
  one_place n placed k h = go (taken (reading_at t k)) refl
    where
      go : (b : Bool) → taken (reading_at t k) ≡ b → appearances answer t n k ≡ once b
      go true e =
          (λ i. sum_below (λ z. times_taken (in_zone z) k h e i) n + (times_taken on_boundary k h e i + times_taken off_sheet k h e i))
          ∙ placed_once n (answer k) (placed k h e)
      go false e =
          (λ i. sum_below (λ z. times_untaken (in_zone z) k h e i) n + (times_untaken on_boundary k h e i + times_untaken off_sheet k h e i))
          ∙ omega (arith, sum_nothing n)

  -- ---- the count of each zone

  -- the samples of a zone are taken
  zone_taken : (z k : ℕ) → taken_and answer t (in_zone z) k ≡ true → taken (reading_at t k) ≡ true
  zone_taken z k = first_passes (taken (reading_at t k)) (in_zone z (answer k))

  module _ (permits : List Float) where
    -- three words a zone
    result_words_length : (n : ℕ) → length (result_words answer t permits n) ≡ 3 * n
    result_words_length zero = refl
    result_words_length (suc n) =
        omega (arith, length-append (result_words answer t permits n) (zone_results answer t permits n), result_words_length n)

    -- the first word of a zone is its count
    result_count : (n z : ℕ) → z < n → get_or (result_words answer t permits n) (3 * z) 0 ≡ (tally_of answer t z).count
    result_count zero z h = absurd (not-suc-le-zero h)
    result_count (suc n) z h = go (below_suc h) (result_count n z)
      where
        words : List ℕ
        words = result_words answer t permits n

        go : (z ≡ n) ⊎ (z < n) → (z < n → get_or words (3 * z) 0 ≡ (tally_of answer t z).count)
            → get_or (words ++ zone_results answer t permits n) (3 * z) 0 ≡ (tally_of answer t z).count
        go (inl e) rest =
            rw e (get_or_at words (tally_of answer t n).count (drop 1 (zone_results answer t permits n)) 0 (3 * n) (result_words_length n))
        go (inr l) rest = get_or-append words (zone_results answer t permits n) 0 (3 * z) (omega (arith, result_words_length n)) ∙ rest l

    -- the count of each zone, where it was written, is the number of its samples
    pub counts_samples : (n : ℕ) (lent : List ℕ) → CountsSamples answer t n (put (result_words answer t permits n) lent)
    counts_samples n lent z h =
        let words = result_words answer t permits n in
        get_or-append words (drop (length words) lent) 0 (3 * z) (omega (arith, result_words_length n))
        ∙ result_count n z h
        ∙ entering_counts (reading_at t) (taken_and answer t (in_zone z)) (sample_count t) (zone_taken z)

    -- ---- one value

    -- as many means are left as are lent
    means_left_length : (means : List Float) (n : ℕ) → length (means_left answer t permits means n) ≡ length means
    means_left_length means zero = refl
    means_left_length means (suc n) = means_length (judgement_of answer t permits n) (means_left answer t permits means n) n ∙ means_left_length means n

    -- where something is entered for a zone, its mean is written in its place
    last_mean : (means : List Float) (z : ℕ) → z < length means → eqb (tally_of answer t z).count 0 ≡ false
        → get_or (means_left answer t permits means (suc z)) z nan ≡ mean (tally_of answer t z)
    last_mean means z room e =
        let before = means_left answer t permits means z in
        ap (λ l. get_or l z nan) (mean_written (permit_of permits z) (tally_of answer t z) before z e)
        ∙ get_or-set_same before z (mean (tally_of answer t z)) nan (omega (arith, means_left_length means z))

    -- and left there by the zones after it
    mean_left : (means : List Float) (n z : ℕ) → n ≤ length means → z < n → eqb (tally_of answer t z).count 0 ≡ false
        → get_or (means_left answer t permits means n) z nan ≡ mean (tally_of answer t z)
    mean_left means zero z room h e = absurd (not-suc-le-zero h)
    mean_left means (suc n) z room h e =
        ⊎_elim
        (λ (i : z ≡ n). subst (λ y. get_or (means_left answer t permits means (suc y)) z nan ≡ mean (tally_of answer t z)) i (last_mean means z (omega arith) e))
        (λ (l : z < n).
        other_mean (judgement_of answer t permits n) (means_left answer t permits means n) n z nan (λ i. omega arith) ∙ mean_left means n z (omega arith) l e)
        (below_suc h)

    -- the mean of a zone with one sample is what it enters at, where the values are doubles
    pub one_value : (means : List Float) (n : ℕ) → n ≤ length means → ((k : ℕ) → k < sample_count t → T (fits binary64 (get_or t.values k nan)))
        → OneValue answer t n (means_left answer t permits means n)
    one_value means n room doubles z k h only =
        mean_left means n z room h counted ∙ ap mean tally ∙ mean_of_one (reading_at t k) was (subst (λ v. T (fits binary64 v)) (sym at) (doubles k sample.0))
      where
        sample : (k < sample_count t) × (taken_and answer t (in_zone z) k ≡ true)
        sample = those_only (taken_and answer t (in_zone z)) (sample_count t) k only

        was : taken (reading_at t k) ≡ true
        was = zone_taken z k sample.1

        at : enters_at (reading_at t k) ≡ get_or t.values k nan
        at = enters_at_value (get_or t.kinds k 0) (get_or t.values k nan) was

        tally : tally_of answer t z ≡ enter none_entered (reading_at t k)
        tally = ap (entering (reading_at t) none_entered) only

        counted : eqb (tally_of answer t z).count 0 ≡ false
        counted = ap (λ c. eqb c.count 0) tally ∙ ap (λ c. eqb c 0) (enter_counts none_entered (reading_at t k) was)

-- ---- samples outside every zone

module _ (answer other : ℕ → Reply) (t u : Samples) (same : SameInZones answer t other u) where
  -- what is entered for each zone is the same without them
  same_tally : (z : ℕ) → tally_of answer t z ≡ tally_of other u z
  same_tally z =
      entering_same (reading_at t) (reading_at u) (taken_and answer t (in_zone z)) (taken_and other u (in_zone z)) (sample_count t) (λ k h. go k (same.1 k h))
      ∙ ap (λ n. entering (reading_at u) none_entered (those (taken_and other u (in_zone z)) n)) same.0
    where
      go : (k : ℕ) → ((reading_at t k ≡ reading_at u k) × (answer k ≡ other k)) ⊎ (Outside answer t k × Outside other u k)
          → (taken_and answer t (in_zone z) k ≡ taken_and other u (in_zone z) k) × (taken_and answer t (in_zone z) k ≡ true → reading_at t k ≡ reading_at u k)
      go k (inl (r, a)) = (λ i. elim (taken (r i)) [ true ↦ in_zone z (a i) | false ↦ false ], λ e. r)
      go k (inr (o, p)) = (o z ∙ sym (p z), λ e. absurd (not_both e (o z)))

  module _ (permits : List Float) where
    -- they change no zone's words
    same_words : (n : ℕ) → result_words answer t permits n ≡ result_words other u permits n
    same_words zero = refl
    same_words (suc z) = λ i. same_words z i ++ words (same_tally z i)
      where
        words : Tally → List ℕ
        words y = y.count ∷ y.below ∷ judgement_word (judge (permit_of permits z) y) ∷ []

    -- they change no mean
    same_means : (means : List Float) (n : ℕ) → means_left answer t permits means n ≡ means_left other u permits means n
    same_means means zero = refl
    same_means means (suc z) = λ i. write_mean (judge (permit_of permits z) (same_tally z i)) (same_means means z i) z

-- they change nothing that is written for the zones
pub outside_changes_nothing : (answer other : ℕ → Reply) (t u : Samples) (permits : List Float) (n : ℕ) → SameInZones answer t other u
    → (results : List ℕ) (means : List Float)
    → (put (result_words answer t permits n) results ≡ put (result_words other u permits n) results)
    × (means_left answer t permits means n ≡ means_left other u permits means n)
outside_changes_nothing answer other t u permits n same results means =
    (ap (λ w. put w results) (same_words answer other t u same permits n), same_means answer other t u same permits means n)

-- ---- the plain reading

-- on an accepted sheet with an index that holds what opening writes, the search says of each sample what the plain reading says
searched_is_read_at : (s : Sheet) (index : List ℕ) (t : Samples) → Accepted s → HoldsIndex s index → (k : ℕ) → searched_at s index t k ≡ read_at s t k
unfolding searched_at
searched_is_read_at s index t a held k =
    searched_is_read_everywhere s index (sample_x t k) (sample_y t k) (replicate max_examined 0) a held
    (rw length-replicate (few_edges (zone_count s) a.counts.1.1.1))

-- so the month is the month by the plain reading
pub read_plainly : (s : Sheet) (index : List ℕ) (t : Samples) (permits : List Float) (lent : Lent) → Accepted s → HoldsIndex s index
    → month_of s index t permits lent ≡ month_by (read_at s t) t permits s (length index) lent
read_plainly s index t permits lent a held = λ i. month_by (λ k. searched_is_read_at s index t a held k i) t permits s (length index) lent
