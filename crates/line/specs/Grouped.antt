-- What is known of the edges sorted by their zone below.
use Rattle.std.specs.Prelude.{◌≡◌, List, ℕ, suc, ◌/◌, length}
use Rattle.subdivision.specs.Lists.{tab}
use Rattle.subdivision.specs.Order.{in_order}
use Rattle.theory.proofs.Groups.{group_start}
use Rattle.line.specs.Waiting.{below_key}

-- the order is the edges sorted by their zone below, and begin tells where those above each zone begin
abbrev pub Grouped : List ℕ → List ℕ → List ℕ → ℕ → Type 0
Grouped edges order begin zones =
    (order ≡ in_order (below_key edges) (length edges / 4)) × (begin ≡ tab (group_start (below_key edges) order) (suc zones))
