-- Tests as words of the C ABI, and a sort that may have no room.
use Rattle.std.specs.Prelude.{Bool, true, false, List, ℕ, leb, length, get_or}
use Rattle.subdivision.specs.Order.{in_order}

-- a test as a word: 1 where it passes, 0 where it fails
abbrev pub flag : Bool → ℕ
flag true = 1
flag false = 0

-- so many numbers can be sorted: they fit 32 bits, and the scratch has as many places
unfoldable pub sort_fits : ℕ → ℕ → Bool
sort_fits count scratch = elim (leb count scratch) [ true ↦ leb count 4294967296 | false ↦ false ]

-- what a sort leaves in the lent order: the numbers in order of their keys where they can be sorted, else what was there
unfoldable pub sort_leaves : List ℕ → List ℕ → ℕ → List ℕ
sort_leaves keys order scratch =
    elim (sort_fits (length order) scratch) [ true ↦ in_order (λ k. get_or keys k 0) (length order) | false ↦ order ]
