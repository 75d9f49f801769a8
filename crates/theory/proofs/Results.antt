-- A refusal gives its number and its item back, and what probes find its edge and their number.
use Rattle.std.specs.Prelude.{◌≡◌, ℕ, Option, Some, None, Result, Ok, Err}
use Rattle.std.proofs.Common.{ap}
use Rattle.subdivision.specs.declared.Probed.{Probed}
use Rattle.subdivision.specs.declared.Refused.{Refused}
use Rattle.subdivision.specs.Results.{refused, covered}

-- the number of a refusal, 0 where there is none
number_in : {A : Type 0} → Result A Refused → ℕ
number_in (Ok a) = 0
number_in (Err e) = e.number

-- the item that a refusal names
item_in : {A : Type 0} → Result A Refused → ℕ
item_in (Ok a) = 0
item_in (Err e) = e.item

-- one refusal has one number and one item
pub same_refusal : {A : Type 0} (n i m j : ℕ) → ◌≡◌ {A = Result A Refused} (refused n i) (refused m j) → (n ≡ m) × (i ≡ j)
unfolding number_in item_in
same_refusal n i m j e = (ap number_in e, ap item_in e)

-- the edge that probes find, 0 where they find none
edge_in : Option Probed → ℕ
edge_in None = 0
edge_in (Some p) = p.edge

-- the probes that find an edge, 0 where they find none
count_in : Option Probed → ℕ
count_in None = 0
count_in (Some p) = p.probes

-- probes find one edge, after one number of probes
pub same_covered : (e q f p : ℕ) → covered e q ≡ covered f p → (e ≡ f) × (q ≡ p)
unfolding edge_in count_in
same_covered e q f p h = (ap edge_in h, ap count_in h)
