-- Bit lengths, top bits and lca: document 01, "What a sheet is" (its last sentence) and "Index and descent".
use Rattle.std.specs.Prelude.{true, false, ℕ, zero, suc, ◌+◌, ◌*◌, ◌-◌, ◌/◌, ◌%◌, leb, eqb}

-- the bit length by halving, within so many halvings
abbrev pub bits_in : ℕ → ℕ → ℕ
bits_in zero k = zero
bits_in (suc fuel) k = elim (eqb k 0) [ true ↦ zero | false ↦ suc (bits_in fuel (k / 2)) ]

-- bits(k), the bit length of k; bits(0) = 0
unfoldable pub bits : ℕ → ℕ
bits k = bits_in k k

-- the top bit by halving, within so many halvings
abbrev pub top_bit_in : ℕ → ℕ → ℕ
top_bit_in zero k = k
top_bit_in (suc fuel) k = elim (leb k 1) [ true ↦ k | false ↦ 2 * top_bit_in fuel (k / 2) ]

-- the top bit of k: the listed values 1, 2, 2, 4, 4, 4, 4, 8 at 1 to 8
unfoldable pub top_bit : ℕ → ℕ
top_bit k = top_bit_in k k

-- the lowest set bit by halving, within so many halvings
abbrev pub low_bit_in : ℕ → ℕ → ℕ
low_bit_in zero k = k
low_bit_in (suc fuel) k = elim (eqb (k % 2) 0) [ true ↦ 2 * low_bit_in fuel (k / 2) | false ↦ 1 ]

-- the lowest set bit of k
unfoldable pub low_bit : ℕ → ℕ
low_bit k = low_bit_in k k

-- the left son of k: k less half its lowest set bit
abbrev pub left_son : ℕ → ℕ
left_son k = k - low_bit k / 2

-- the right son of k: k plus half its lowest set bit
abbrev pub right_son : ℕ → ℕ
right_son k = k + low_bit k / 2

-- lca by halved places, within so many halvings
abbrev pub lca_in : ℕ → ℕ → ℕ → ℕ
lca_in zero i j = j
lca_in (suc fuel) i j = elim (leb j (i + 1)) [ true ↦ j | false ↦ 2 * lca_in fuel (i / 2) (j / 2) ]

-- for i < j, lca(i, j): j when j = i + 1, and otherwise twice lca(i / 2, j / 2), halves rounded down; the higher place halves at each turn
unfoldable pub lca : ℕ → ℕ → ℕ
lca i j = lca_in j i j
