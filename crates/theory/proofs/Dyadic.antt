-- Laws of bit lengths, top bits, lowest bits and lca: their steps by halving, their bounds, and lca by the bits of its places.
use mathlib.Core.Bool.{true, false}
use mathlib.Core.List.{[], ◌∷◌, map}
use mathlib.Core.Logic.{◌⊎◌, inl, inr, ⊎_elim}
use mathlib.Core.Path.{◌≡◌, refl, sym, ap, ◌∙◌}
use Prim.Native.Nat.{ℕ, zero, suc, ◌+◌, ◌-◌, ◌*◌, ◌/◌, ◌%◌, ◌^◌, ◌≤◌, ◌<◌, zero-le, suc-le-suc}
use native.Mathlib.Nat.{le_refl, le_of_eq, not-suc-le-zero, zero-lt-suc, pow-suc, mod-one}
use native.Mathlib.Decide.{le_ind}
use native.Mathlib.Omega.{arith}
use borrow.Author.Tests.{le-leb, lt-leb, eq-eqb, ne_eqb}
use lib.Arith.{half_le, bin_ind, le-zero, lt-one, mod-mul}
use lib.Bits.{bit_xor, xor_step, xor_self, xor_shr, xor_add_and, and_le_l}
use lib.Dec.{leb, eqb}
use Rattle.subdivision.specs.Limits.{max_zones, max_examined}
use Rattle.subdivision.specs.Dyadic.{bits_in, bits, top_bit_in, top_bit, low_bit_in, low_bit, lca_in, lca}

pub le_or_lt : (a b : ℕ) → (a ≤ b) ⊎ (b < a)
le_or_lt zero b = inl zero-le
le_or_lt (suc a) zero = inr (suc-le-suc zero-le)
le_or_lt (suc a) (suc b) = ⊎_elim (λ p. inl (suc-le-suc p)) (λ q. inr (suc-le-suc q)) (le_or_lt a b)

-- ---- more fuel than enough changes nothing

bits_in_more : (fuel k : ℕ) → k ≤ fuel → bits_in (suc fuel) k ≡ bits_in fuel k
bits_in_more zero k h = rw (eq-eqb k 0 (le-zero h), bits_in)
bits_in_more (suc fuel) k h =
    ap (λ (x : ℕ). elim (eqb k 0) [ true ↦ zero | false ↦ suc x ]) (bits_in_more fuel (k / 2) (half_le h))

bits_enough : (fuel k : ℕ) → k ≤ fuel → bits_in fuel k ≡ bits k
unfolding bits
bits_enough fuel k h = le_ind (λ (f : ℕ). bits_in f k ≡ bits_in k k) refl (λ f l e. bits_in_more f k l ∙ e) fuel h

top_bit_in_more : (fuel k : ℕ) → k ≤ fuel → top_bit_in (suc fuel) k ≡ top_bit_in fuel k
top_bit_in_more zero k h = rw (le-leb k 1 (omega arith), top_bit_in)
top_bit_in_more (suc fuel) k h =
    ap (λ (x : ℕ). elim (leb k 1) [ true ↦ k | false ↦ 2 * x ]) (top_bit_in_more fuel (k / 2) (half_le h))

top_bit_enough : (fuel k : ℕ) → k ≤ fuel → top_bit_in fuel k ≡ top_bit k
unfolding top_bit
top_bit_enough fuel k h = le_ind (λ (f : ℕ). top_bit_in f k ≡ top_bit_in k k) refl (λ f l e. top_bit_in_more f k l ∙ e) fuel h

low_bit_in_more : (fuel k : ℕ) → k ≤ fuel → low_bit_in (suc fuel) k ≡ low_bit_in fuel k
low_bit_in_more zero k h = rw (le-zero h)
low_bit_in_more (suc fuel) k h =
    ap (λ (x : ℕ). elim (eqb (k % 2) 0) [ true ↦ 2 * x | false ↦ 1 ]) (low_bit_in_more fuel (k / 2) (half_le h))

low_bit_enough : (fuel k : ℕ) → k ≤ fuel → low_bit_in fuel k ≡ low_bit k
unfolding low_bit
low_bit_enough fuel k h = le_ind (λ (f : ℕ). low_bit_in f k ≡ low_bit_in k k) refl (λ f l e. low_bit_in_more f k l ∙ e) fuel h

lca_in_more : (fuel i j : ℕ) → j ≤ fuel → lca_in (suc fuel) i j ≡ lca_in fuel i j
lca_in_more zero i j h = rw (le-leb j (i + 1) (omega arith), lca_in)
lca_in_more (suc fuel) i j h =
    ap (λ (x : ℕ). elim (leb j (i + 1)) [ true ↦ j | false ↦ 2 * x ]) (lca_in_more fuel (i / 2) (j / 2) (half_le h))

lca_enough : (fuel i j : ℕ) → j ≤ fuel → lca_in fuel i j ≡ lca i j
unfolding lca
lca_enough fuel i j h = le_ind (λ (f : ℕ). lca_in f i j ≡ lca_in j i j) refl (λ f l e. lca_in_more f i j l ∙ e) fuel h

-- ---- steps by halving

pub bits_zero : bits 0 ≡ 0
unfolding bits
bits_zero = refl

pub bits_half : (k : ℕ) → 0 < k → bits k ≡ suc (bits (k / 2))
bits_half k h = sym (bits_enough (suc k) k (omega arith)) ∙ rw (ne_eqb k 0 (omega arith), bits_in) (ap suc (bits_enough k (k / 2) (omega arith)))

pub top_bit_small : (k : ℕ) → k ≤ 1 → top_bit k ≡ k
top_bit_small k h = sym (top_bit_enough (suc k) k (omega arith)) ∙ rw (le-leb k 1, top_bit_in)

pub top_bit_half : (k : ℕ) → 1 < k → top_bit k ≡ 2 * top_bit (k / 2)
top_bit_half k h = sym (top_bit_enough (suc k) k (omega arith)) ∙ rw (lt-leb k 1, top_bit_in) (ap (λ (x : ℕ). 2 * x) (top_bit_enough k (k / 2) (omega arith)))

pub low_bit_odd : (k : ℕ) → k % 2 ≡ 1 → low_bit k ≡ 1
low_bit_odd k h = sym (low_bit_enough (suc k) k (omega arith)) ∙ rw (ne_eqb (k % 2) 0 (omega arith), low_bit_in)

pub low_bit_even : (k : ℕ) → k % 2 ≡ 0 → low_bit k ≡ 2 * low_bit (k / 2)
low_bit_even k h = sym (low_bit_enough (suc k) k (omega arith)) ∙ rw (eq-eqb (k % 2) 0, low_bit_in) (ap (λ (x : ℕ). 2 * x) (low_bit_enough k (k / 2) (omega arith)))

pub lca_next : (i j : ℕ) → j ≤ i + 1 → lca i j ≡ j
lca_next i j h = sym (lca_enough (suc j) i j (omega arith)) ∙ rw (le-leb j (i + 1), lca_in)

pub lca_half : (i j : ℕ) → i + 1 < j → lca i j ≡ 2 * lca (i / 2) (j / 2)
lca_half i j h = sym (lca_enough (suc j) i j (omega arith)) ∙ rw (lt-leb j (i + 1), lca_in) (ap (λ (x : ℕ). 2 * x) (lca_enough j (i / 2) (j / 2) (omega arith)))

-- ---- bounds

pub bits_le : (b k : ℕ) → k < 2 ^ b → bits k ≤ b
bits_le zero k h = rw (lt-one h, bits_zero) zero-le
bits_le (suc b) k h =
    ⊎_elim
    (λ (z : k ≤ 0). rw (le-zero z, bits_zero) zero-le)
    (λ p. rw (bits_half k p) (suc-le-suc (bits_le b (k / 2) (omega (arith, pow-suc 2 b)))))
    (le_or_lt k 0)

-- the limits leave so few edges to examine
pub few_edges : (n : ℕ) → n ≤ max_zones → bits (n - 1) ≤ max_examined
few_edges n h = bits_le max_examined (n - 1) (omega arith)

pub lt_pow_bits : (k : ℕ) → k < 2 ^ bits k
lt_pow_bits =
    bin_ind (λ (k : ℕ). k < 2 ^ bits k) (rw bits_zero (le_refl 1)) λ k below.
    ⊎_elim
    (λ (z : k ≤ 0). rw (le-zero z, bits_zero) (le_refl 1))
    (λ p. rw (bits_half k p, pow-suc) (omega arith))
    (le_or_lt k 0)

pub pow_bits : (k : ℕ) → 0 < k → 2 ^ bits k ≡ 2 * top_bit k
pow_bits =
    bin_ind (λ (k : ℕ). 0 < k → 2 ^ bits k ≡ 2 * top_bit k) (λ h. absurd (not-suc-le-zero h)) λ k below p.
    ⊎_elim
    (λ (l : k ≤ 1). let one : k ≡ 1 = omega arith in rw one (unfold bits top_bit in refl))
    (λ (l : 1 < k). let e : 2 ^ bits (k / 2) ≡ 2 * top_bit (k / 2) = below (omega arith) in rw (bits_half k p, pow-suc, top_bit_half k l) (omega arith))
    (le_or_lt k 1)

pub top_bit_is_pow : (k : ℕ) → 0 < k → top_bit k ≡ 2 ^ (bits k - 1)
top_bit_is_pow k p =
    let less : suc (bits (k / 2)) - 1 ≡ bits (k / 2) = omega arith in
    rw (bits_half k p, less) (omega (arith, rw (bits_half k p, pow-suc) at (pow_bits k p)))

pub top_bit_le : (k : ℕ) → top_bit k ≤ k
top_bit_le =
    bin_ind (λ (k : ℕ). top_bit k ≤ k) (le_of_eq (top_bit_small 0 zero-le)) λ k below.
    ⊎_elim (λ l. le_of_eq (top_bit_small k l)) (λ l. rw (top_bit_half k l) (omega arith)) (le_or_lt k 1)

pub top_bit_above : (k : ℕ) → 0 < k → k < 2 * top_bit k
top_bit_above k p = rw (pow_bits k p) at (lt_pow_bits k)

pub pow_bits_le : (k : ℕ) → 0 < k → 2 ^ bits k ≤ 2 * k
pow_bits_le k p = omega (arith, pow_bits k p, top_bit_le k)

pub top_bit_pos : (k : ℕ) → 0 < k → 0 < top_bit k
top_bit_pos k p = omega (arith, top_bit_above k p)

pub lca_le : (i j : ℕ) → lca i j ≤ j
lca_le i j =
    bin_ind (λ (j : ℕ). (i : ℕ) → lca i j ≤ j) (λ i. le_of_eq (lca_next i 0 zero-le))
    (λ j below i. ⊎_elim (λ l. le_of_eq (lca_next i j l)) (λ l. rw (lca_half i j l) (omega (arith, below (i / 2)))) (le_or_lt j (i + 1)))
    j i

pub lca_above : (i j : ℕ) → i < j → i < lca i j
lca_above i j =
    bin_ind (λ (j : ℕ). (i : ℕ) → i < j → i < lca i j) (λ i h. absurd (not-suc-le-zero h))
    (λ j below i h. ⊎_elim (λ l. rw (lca_next i j l) h) (λ l. rw (lca_half i j l) (omega (arith, below (i / 2) (omega arith)))) (le_or_lt j (i + 1)))
    j i

-- ---- lca by the bits of its places

-- the step by halving also holds where the places are neighbours and their halves still differ
pub lca_halves : (i j : ℕ) → i / 2 < j / 2 → lca i j ≡ 2 * lca (i / 2) (j / 2)
lca_halves i j h =
    ⊎_elim (λ l. rw (lca_next i j l, lca_next (i / 2) (j / 2) (omega arith)) (omega arith)) (lca_half i j) (le_or_lt j (i + 1))

xor_pos : (i j : ℕ) → i < j → 0 < bit_xor i j
xor_pos i j h = omega (arith, xor_add_and i j, and_le_l i j)

-- lca(i, j) is j with the bits below the top bit of i xor j cleared
pub lca_is_bits : (i j : ℕ) → i < j → lca i j ≡ j - j % top_bit (bit_xor i j)
lca_is_bits i j =
    bin_ind (λ (j : ℕ). (i : ℕ) → i < j → lca i j ≡ j - j % top_bit (bit_xor i j)) (λ i h. absurd (not-suc-le-zero h))
    (λ j below i h. ⊎_elim (together i j h) (λ l. apart i j l (below (i / 2) l)) (le_or_lt (j / 2) (i / 2)))
    j i
  where
    together : (i j : ℕ) → i < j → j / 2 ≤ i / 2 → lca i j ≡ j - j % top_bit (bit_xor i j)
    together i j h l =
        let half : j / 2 ≡ i / 2 = omega arith in
        let even : i % 2 ≡ 0 = omega arith in
        let odd : j % 2 ≡ 1 = omega arith in
        let x : bit_xor i j ≡ 1 = xor_step i j ∙ rw (half, even, odd, xor_self) in
        rw (x, top_bit_small 1 (le_refl 1), mod-one, lca_next i j (omega arith)) (omega arith)

    apart : (i j : ℕ) → i / 2 < j / 2 → lca (i / 2) (j / 2) ≡ j / 2 - j / 2 % top_bit (bit_xor (i / 2) (j / 2))
        → lca i j ≡ j - j % top_bit (bit_xor i j)
    apart i j l e =
        let p : 0 < bit_xor (i / 2) (j / 2) = xor_pos (i / 2) (j / 2) l in
        let half : bit_xor i j / 2 ≡ bit_xor (i / 2) (j / 2) = xor_shr i j 1 in
        let t : top_bit (bit_xor i j) ≡ top_bit (bit_xor (i / 2) (j / 2)) * 2 = top_bit_half (bit_xor i j) (omega arith) ∙ rw half (omega arith) in
        rw (lca_halves i j l, e, t, mod-mul j (top_bit_pos _ p) (zero-lt-suc 1)) (omega arith)

-- ---- the listed top bits of 1 to 8

pub top_bit_listed : map top_bit (1 ∷ 2 ∷ 3 ∷ 4 ∷ 5 ∷ 6 ∷ 7 ∷ 8 ∷ []) ≡ 1 ∷ 2 ∷ 2 ∷ 4 ∷ 4 ∷ 4 ∷ 4 ∷ 8 ∷ []
unfolding top_bit
top_bit_listed = refl
