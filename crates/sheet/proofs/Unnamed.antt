-- The verdict on the limits, from whether each is kept.
use mathlib.Core.Path.{◌≡◌}
use mathlib.Core.Bool.{true, false}
use Rattle.subdivision.specs.Results.{passed, refused}
use Rattle.subdivision.specs.Formula.{holds}
use Rattle.subdivision.specs.Sheet.{Sheet}
use Rattle.subdivision.specs.Refusals.{judged, counts_kept, margins_kept, limit_refusals}
use Rattle.theory.proofs.Judgement.{none_named}

module _ (s : Sheet) where
  pub counts_broken : holds (counts_kept s) ≡ false → refused 1 0 ≡ judged (limit_refusals s)
  counts_broken e = rw (e, judged) (λ i. refused 1 (none_named 1 (counts_kept s) i))

  pub margins_broken : holds (counts_kept s) ≡ true → holds (margins_kept s) ≡ false → refused 2 0 ≡ judged (limit_refusals s)
  margins_broken k e = rw (k, e, judged) (λ i. refused 2 (none_named 2 (margins_kept s) i))

  pub limits_kept : holds (counts_kept s) ≡ true → holds (margins_kept s) ≡ true → passed ≡ judged (limit_refusals s)
  limits_kept k l = rw (k, l, judged)
