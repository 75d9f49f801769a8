-- Lists that hold the edges of one fan, and that the groups of the edges in order are such lists.
use mathlib.Core.Path.{◌≡◌}
use mathlib.Core.Bool.{Bool}
use mathlib.Core.List.{List}
use Prim.Native.Nat.{ℕ, suc, ◌*◌, ◌<◌, ◌≤◌}
use native.Mathlib.Omega.{arith}
use lib.ListN.{length, get_or}
use Rattle.subdivision.specs.Order.{SortedBelow}
use Rattle.subdivision.specs.Sheet.{Sheet, edge_count}
use Rattle.theory.proofs.Groups.{group_entry, group_holds}
use Rattle.theory.proofs.Order.{sorted_below}
use Rattle.theory.proofs.FanOrder.{OfFan}
use Rattle.fans.specs.Fans.{fan_key, fan_order, fan_of}
use Rattle.fans.proofs.Furthest.{Each}

-- the list holds the edges of the eastern or western fan of vertex v, and no other
pub record FanList (s : Sheet) (eastern : Bool) (v : ℕ) (l : List ℕ) : Type 0 where
  pub entries : Each (OfFan s eastern v) l
  pub whole : (e : ℕ) → OfFan s eastern v e → (i : ℕ) × (i < length l) × (get_or l i 0 ≡ e)

pub fan_of_list : (s : Sheet) (eastern : Bool) (v : ℕ) → FanList s eastern v (fan_of s.edges eastern v)
fan_of_list s eastern v = record { entries = entries; whole = whole }
  where
    sorted : SortedBelow (fan_key s.edges eastern) (edge_count s) (fan_order s.edges eastern)
    sorted = sorted_below (fan_key s.edges eastern) (edge_count s)

    of_group : (e : ℕ) → (e < edge_count s) × ((v * 4294967296 ≤ fan_key s.edges eastern e) × (fan_key s.edges eastern e < suc v * 4294967296)) → OfFan s eastern v e
    of_group e h = (h.0, omega arith)

    entries : Each (OfFan s eastern v) (fan_of s.edges eastern v)
    entries i h =
        of_group (get_or (fan_of s.edges eastern v) i 0) (group_entry (fan_key s.edges eastern) (fan_order s.edges eastern) (edge_count s) sorted v i h)

    whole : (e : ℕ) → OfFan s eastern v e → (i : ℕ) × (i < length (fan_of s.edges eastern v)) × (get_or (fan_of s.edges eastern v) i 0 ≡ e)
    whole e a = group_holds (fan_key s.edges eastern) (fan_order s.edges eastern) (edge_count s) sorted v e a.0 (omega (arith, a.1)) (omega (arith, a.1))
