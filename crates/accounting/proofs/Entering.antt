-- Laws of readings entered for a zone: how many they are, which readings count, and the mean that is written of them.
use mathlib.Core.Path.{◌≡◌, refl, sym, ap, ◌∙◌}
use mathlib.Core.Bool.{Bool, true, false, false≢true}
use mathlib.Core.List.{List}
use mathlib.Core.Logic.{◌≢◌}
use Prim.Native.Nat.{ℕ, zero, suc, ◌+◌, ◌<◌, ◌≤◌}
use native.Mathlib.Nat.{add-zero, lt-suc_self}
use native.Mathlib.Omega.{arith}
use lib.Dec.{T, eqb}
use lib.Ieee.{Float, binary64, fits, lt}
use lib.ListN.{length, get_or, set, length-append, length-set}
use lib.Seq.{get_or-set_other}
use Rattle.ledger.specs.declared.Reading.{Reading}
use Rattle.ledger.specs.declared.Permit.{Permit}
use Rattle.ledger.specs.declared.Tally.{Tally}
use Rattle.ledger.specs.declared.Judgement.{Judgement}
use Rattle.ledger.specs.declared.Judgement.TheVariants.{NoMean, Within, Over}
use Rattle.ledger.specs.Readings.{reading_of, taken, enters_at}
use Rattle.ledger.specs.Tallies.{none_entered, enter, entering, mean, judge, write_mean}
use Rattle.ledger.specs.Months.{those}
use Rattle.accounting.proofs.Exact.{div_one}
use Rattle.accounting.proofs.Those.{alone, those_same, entering_append}

-- ---- a reading

-- one of two readings has what both have
choice : (P : Reading → Type 0) (b : Bool) (q r : Reading) → P q → P r → P (elim b [ true ↦ q | false ↦ r ])
choice P true q r x y = x
choice P false q r x y = y

-- the reading of a lent kind and value has what the four readings of that value have
reading_has : (P : Reading → Type 0) (kind : ℕ) (value : Float)
    → P Reading.NotTaken → P (Reading.Measured value) → P (Reading.BelowDetection value) → P Reading.Unknown → P (reading_of kind value)
unfolding reading_of
reading_has P kind value n m b u =
    let other : Reading = elim (eqb kind 2) [ true ↦ Reading.BelowDetection value | false ↦ Reading.Unknown ] in
    let known : Reading = elim (eqb kind 1) [ true ↦ Reading.Measured value | false ↦ other ] in
    choice P (eqb kind 0) Reading.NotTaken known n
    (choice P (eqb kind 1) (Reading.Measured value) other m (choice P (eqb kind 2) (Reading.BelowDetection value) Reading.Unknown b u))

-- a reading that was taken enters at the lent value
pub enters_at_value : (kind : ℕ) (value : Float) → taken (reading_of kind value) ≡ true → enters_at (reading_of kind value) ≡ value
enters_at_value kind value =
    reading_has (λ r. taken r ≡ true → enters_at r ≡ value) kind value (λ e. absurd (false≢true e)) (λ e. refl) (λ e. refl) (λ e. absurd (false≢true e))

-- a reading that was taken counts one
pub enter_counts : (t : Tally) (r : Reading) → taken r ≡ true → (enter t r).count ≡ t.count + 1
enter_counts t Reading.NotTaken e = absurd (false≢true e)
enter_counts t (Reading.Measured value) e = refl
enter_counts t (Reading.BelowDetection limit) e = refl
enter_counts t Reading.Unknown e = absurd (false≢true e)

-- ---- the readings of the numbers that pass a test

-- where they were all taken, they are counted
pub entering_counts : (reading : ℕ → Reading) (test : ℕ → Bool) (n : ℕ) → ((k : ℕ) → test k ≡ true → taken (reading k) ≡ true)
    → (entering reading none_entered (those test n)).count ≡ length (those test n)
entering_counts reading test zero f = refl
entering_counts reading test (suc n) f =
    ap (λ t. t.count) (entering_append reading none_entered (those test n) (alone (test n) n))
    ∙ one (test n) refl (entering reading none_entered (those test n))
    ∙ ap (λ c. c + length (alone (test n) n)) (entering_counts reading test n f)
    ∙ sym (length-append (those test n) (alone (test n) n))
  where
    one : (b : Bool) → test n ≡ b → (t : Tally) → (entering reading t (alone b n)).count ≡ t.count + length (alone b n)
    one true e t = enter_counts t (reading n) (f n e)
    one false e t = sym (add-zero t.count)

-- tests that pass the same numbers, and readings that are the same for these, enter the same
pub entering_same : (reading other : ℕ → Reading) (test pass : ℕ → Bool) (n : ℕ)
    → ((k : ℕ) → k < n → (test k ≡ pass k) × (test k ≡ true → reading k ≡ other k))
    → entering reading none_entered (those test n) ≡ entering other none_entered (those pass n)
entering_same reading other test pass n f =
    same n (λ k h. (f k h).1) ∙ ap (entering other none_entered) (those_same test pass n (λ k h. (f k h).0))
  where
    one : (b : Bool) (k : ℕ) (t : Tally) → (b ≡ true → reading k ≡ other k) → entering reading t (alone b k) ≡ entering other t (alone b k)
    one true k t e = ap (enter t) (e refl)
    one false k t e = refl

    same : (n : ℕ) → ((k : ℕ) → k < n → test k ≡ true → reading k ≡ other k)
        → entering reading none_entered (those test n) ≡ entering other none_entered (those test n)
    same zero e = refl
    same (suc n) e =
        entering_append reading none_entered (those test n) (alone (test n) n)
        ∙ ap (λ t. entering reading t (alone (test n) n)) (same n (λ k h. e k (omega arith)))
        ∙ one (test n) n (entering other none_entered (those test n)) (e n (lt-suc_self n))
        ∙ sym (entering_append other none_entered (those test n) (alone (test n) n))

-- ---- the mean

-- the mean of one reading that was taken is what it enters at
pub mean_of_one : (r : Reading) → taken r ≡ true → T (fits binary64 (enters_at r)) → mean (enter none_entered r) ≡ enters_at r
mean_of_one Reading.NotTaken e f = absurd (false≢true e)
mean_of_one (Reading.Measured value) e f = div_one binary64 value f
mean_of_one (Reading.BelowDetection limit) e f = div_one binary64 limit f
mean_of_one Reading.Unknown e f = absurd (false≢true e)

-- where something is entered, the mean is written
pub mean_written : (p : Permit) (t : Tally) (means : List Float) (z : ℕ) → eqb t.count 0 ≡ false → write_mean (judge p t) means z ≡ set means z (mean t)
unfolding judge
mean_written p t means z e = rw (e, judge) (go (lt p.limit (mean t)))
  where
    go : (b : Bool) → write_mean (elim b [ true ↦ Over (mean t) | false ↦ Within (mean t) ]) means z ≡ set means z (mean t)
    go true = refl
    go false = refl

-- the means of other zones are left as they were
pub other_mean : (j : Judgement) (means : List Float) (y z : ℕ) (d : Float) → z ≢ y → get_or (write_mean j means y) z d ≡ get_or means z d
other_mean NoMean means y z d h = refl
other_mean (Within m) means y z d h = get_or-set_other means y z m d h
other_mean (Over m) means y z d h = get_or-set_other means y z m d h

-- there are as many means as before
pub means_length : (j : Judgement) (means : List Float) (z : ℕ) → length (write_mean j means z) ≡ length means
means_length NoMean means z = refl
means_length (Within m) means z = length-set means z m
means_length (Over m) means z = length-set means z m

-- one reading more adds at most one to each count
pub enter_adds : (t : Tally) (r : Reading) → ((enter t r).count ≤ t.count + 1) × ((enter t r).below ≤ t.below + 1)
enter_adds t Reading.NotTaken = (omega arith, omega arith)
enter_adds t (Reading.Measured value) = (omega arith, omega arith)
enter_adds t (Reading.BelowDetection limit) = (omega arith, omega arith)
enter_adds t Reading.Unknown = (omega arith, omega arith)
