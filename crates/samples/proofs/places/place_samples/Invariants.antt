-- The loop's invariant: none of the samples passed is refused with 22, and where they lie is written.
use Rattle.std.proofs.Common.{◌≡◌, ◌<◌, ℕ, false}
use Rattle.subdivision.specs.Lists.{tab, put}
use Rattle.tables.specs.Lent.{lent}
use Rattle.samples.specs.Room.{samples_in}
use Rattle.samples.specs.Spots.{found_spot, spot_in, nowhere}
use Rattle.samples.proofs.places.place_samples.Given as goal

abbrev pub invariant-loop-k : goal.invariant-loop-k
invariant-loop-k l =
    let at = found_spot (lent l.sheet) l.index (samples_in l.samples) in record {
      passed : (i : ℕ) → i < l.k → nowhere (at i) ≡ false;
      written : l.places ≡ put (tab (λ i. spot_in (at i)) l.k) l.initial.places;
    }
