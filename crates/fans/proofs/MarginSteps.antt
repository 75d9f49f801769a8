-- One step along the vertices in order: the least vertex at fault so far, with one place more.
use Rattle.std.proofs.Common.{◌≡◌, ℕ, suc, ◌+◌, ◌-◌, ◌≤◌, Bool, min, true, false, List, ℤ, get_or, ap, ◌∙◌, arith}
use Rattle.theory.proofs.Lowest.{least_of, least_with, least_without}
use Rattle.fans.specs.Fans.{fault_between, margin_fault}

module _ (west : ℕ) (vertices : List ℤ) (edges points : List ℕ) (count : ℕ) where
  -- the least vertex at fault over the first i places
  abbrev pub least_fault : ℕ → ℕ
  least_fault i = least_of (margin_fault west vertices edges points) (λ k. get_or points k 0) i count

  module _ (i : ℕ) (h : 1 ≤ i) where
    -- the vertices at the place before i and at i are at fault
    abbrev pub fault_at_last : Bool
    fault_at_last = fault_between west vertices edges (get_or points (i - 1) 0) (get_or points i 0)

    same_fault : margin_fault west vertices edges points (i - 1) ≡ fault_at_last
    same_fault =
        let next : suc (i - 1) ≡ i = omega arith in
        ap (λ (k : ℕ). fault_between west vertices edges (get_or points (i - 1) 0) (get_or points k 0)) next

    -- where they are, the lower one counts
    pub least_with_last : fault_at_last ≡ true → least_fault (i + 1 - 1) ≡ min (get_or points (i - 1) 0) (least_fault (i - 1))
    least_with_last e =
        let next : i + 1 - 1 ≡ i - 1 + 1 = omega arith in
        rw next (least_with (margin_fault west vertices edges points) (λ k. get_or points k 0) count (i - 1) (same_fault ∙ e))

    -- where they are not, the least stays
    pub least_without_last : fault_at_last ≡ false → least_fault (i + 1 - 1) ≡ least_fault (i - 1)
    least_without_last e =
        let next : i + 1 - 1 ≡ i - 1 + 1 = omega arith in
        rw next (least_without (margin_fault west vertices edges points) (λ k. get_or points k 0) count (i - 1) (same_fault ∙ e))
