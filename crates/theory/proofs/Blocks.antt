-- Dyadic blocks: the places about a number, as far as its lowest bit reaches on either side, and the blocks of its sons.
use mathlib.Core.Logic.{◌⊎◌, inl, inr, ⊎_elim}
use mathlib.Core.Path.{◌≡◌, refl, ap, ◌∙◌}
use Prim.Native.Nat.{ℕ, suc, ◌+◌, ◌-◌, ◌*◌, ◌/◌, ◌%◌, ◌≤◌, ◌<◌, zero-le}
use native.Mathlib.Nat.{not-suc-le-zero, zero-lt-suc, add-zero}
use native.Mathlib.Omega.{arith}
use lib.Arith.{bin_ind}
use lib.Bits.{bit_and, and_step, and_self}
use Rattle.subdivision.specs.Dyadic.{bits, top_bit, low_bit, left_son, right_son, lca}
use Rattle.theory.proofs.Dyadic.{le_or_lt, bits_half, bits_le, lt_pow_bits, top_bit_small, top_bit_half, top_bit_above, top_bit_pos, low_bit_odd, low_bit_even, lca_next, lca_halves}

-- the places from k less its lowest bit up to before k plus it
abbrev pub InBlock : ℕ → ℕ → Type 0
InBlock k p = (k - low_bit k ≤ p) × (p < k + low_bit k)

even_or_odd : (k : ℕ) → (k % 2 ≡ 0) ⊎ (k % 2 ≡ 1)
even_or_odd k = ⊎_elim (λ l. inl (omega arith)) (λ l. inr (omega arith)) (le_or_lt (k % 2) 0)

-- ---- lowest bits

low_bit_zero : low_bit 0 ≡ 0
unfolding low_bit
low_bit_zero = refl

low_bit_twice : (b : ℕ) → low_bit (2 * b) ≡ 2 * low_bit b
low_bit_twice b = let half : 2 * b / 2 ≡ b = omega arith in low_bit_even (2 * b) (omega arith) ∙ rw half

pub low_bit_le : (k : ℕ) → low_bit k ≤ k
low_bit_le =
    bin_ind (λ (k : ℕ). low_bit k ≤ k) (rw low_bit_zero zero-le) λ k below.
    ⊎_elim (λ even. omega (arith, low_bit_even k even)) (λ odd. omega (arith, low_bit_odd k odd)) (even_or_odd k)

-- the lowest bit is what clearing it takes away
pub low_bit_and : (k : ℕ) → 0 < k → low_bit k ≡ k - bit_and k (k - 1)
low_bit_and =
    bin_ind (λ (k : ℕ). 0 < k → low_bit k ≡ k - bit_and k (k - 1)) (λ h. absurd (not-suc-le-zero h)) λ k below h.
    ⊎_elim (λ even. halved k h even (below (omega arith))) (last k) (even_or_odd k)
  where
    last : (k : ℕ) → k % 2 ≡ 1 → low_bit k ≡ k - bit_and k (k - 1)
    last k odd =
        let same : (k - 1) / 2 ≡ k / 2 = omega arith in
        let none : (k - 1) % 2 ≡ 0 = omega arith in
        let rest : bit_and k (k - 1) ≡ k / 2 * 2 = and_step k (k - 1) ∙ rw (same, none, odd, and_self) (add-zero (k / 2 * 2)) in
        low_bit_odd k odd ∙ rw rest (omega arith)

    halved : (k : ℕ) → 0 < k → k % 2 ≡ 0 → low_bit (k / 2) ≡ k / 2 - bit_and (k / 2) (k / 2 - 1) → low_bit k ≡ k - bit_and k (k - 1)
    halved k h even below =
        let less : (k - 1) / 2 ≡ k / 2 - 1 = omega arith in
        let one : (k - 1) % 2 ≡ 1 = omega arith in
        let rest : bit_and k (k - 1) ≡ bit_and (k / 2) (k / 2 - 1) * 2 = and_step k (k - 1) ∙ rw (less, one, even) (add-zero _) in
        low_bit_even k even ∙ rw (below, rest) (omega arith)

-- ---- a block, its number as lca, and the blocks of the sons

-- for i < k <= j, both in the block of k, lca(i, j) is k
pub block_lca : (k i j : ℕ) → i < k → k ≤ j → InBlock k i → InBlock k j → lca i j ≡ k
block_lca =
    bin_ind (λ (k : ℕ). (i j : ℕ) → i < k → k ≤ j → InBlock k i → InBlock k j → lca i j ≡ k) (λ i j h. absurd (not-suc-le-zero h))
    λ k below i j h l in_i in_j.
    ⊎_elim (halved k i j h l in_i in_j (below (i / 2) (j / 2))) (next k i j h l in_i in_j) (even_or_odd k)
  where
    next : (k i j : ℕ) → i < k → k ≤ j → InBlock k i → InBlock k j → k % 2 ≡ 1 → lca i j ≡ k
    next k i j h l in_i in_j odd =
        let same : j ≡ k = omega (arith, in_j.1, low_bit_odd k odd) in
        lca_next i j (omega (arith, in_i.0, low_bit_odd k odd)) ∙ same

    halved : (k i j : ℕ) → i < k → k ≤ j → InBlock k i → InBlock k j
        → (i / 2 < k / 2 → k / 2 ≤ j / 2 → InBlock (k / 2) (i / 2) → InBlock (k / 2) (j / 2) → lca (i / 2) (j / 2) ≡ k / 2)
        → k % 2 ≡ 0 → lca i j ≡ k
    halved k i j h l in_i in_j below even =
        let low : low_bit k ≡ 2 * low_bit (k / 2) = low_bit_even k even in
        let half : lca (i / 2) (j / 2) ≡ k / 2 = below (omega arith) (omega arith) (omega (arith, in_i.0), omega (arith, in_i.1)) (omega (arith, in_j.0), omega (arith, in_j.1)) in
        lca_halves i j (omega arith) ∙ rw half (omega arith)

low_even : (k : ℕ) → 1 < low_bit k → k % 2 ≡ 0
low_even k h = ⊎_elim (λ even. even) (λ odd. omega (arith, low_bit_odd k odd)) (even_or_odd k)

one_away : (k s : ℕ) → k % 2 ≡ 0 → (k - s) + (s - k) ≡ 1 → s % 2 ≡ 1
one_away k s even away = omega arith

even_away : (k s d : ℕ) → k % 2 ≡ 0 → (k - s) + (s - k) ≡ 2 * d → (s % 2 ≡ 0) × ((k / 2 - s / 2) + (s / 2 - k / 2) ≡ d)
even_away k s d even away = let even_too : s % 2 ≡ 0 = omega arith in (even_too, omega arith)

-- what is half the lowest bit of k away from k has half its lowest bit
half_away : (k s : ℕ) → 1 < low_bit k → (k - s) + (s - k) ≡ low_bit k / 2 → low_bit k ≡ 2 * low_bit s
half_away =
    bin_ind (λ (k : ℕ). (s : ℕ) → 1 < low_bit k → (k - s) + (s - k) ≡ low_bit k / 2 → low_bit k ≡ 2 * low_bit s)
    (λ s h. absurd (not-suc-le-zero (rw low_bit_zero at h)))
    λ k below s h away. ⊎_elim (unit k s h away) (λ l. twice k s h l away (below (s / 2) l)) (le_or_lt (low_bit (k / 2)) 1)
  where
    unit : (k s : ℕ) → 1 < low_bit k → (k - s) + (s - k) ≡ low_bit k / 2 → low_bit (k / 2) ≤ 1 → low_bit k ≡ 2 * low_bit s
    unit k s h away l =
        let even : k % 2 ≡ 0 = low_even k h in
        let low : low_bit k ≡ 2 = omega (arith, low_bit_even k even) in
        omega (arith, low_bit_odd s (one_away k s even (away ∙ rw low)))

    twice : (k s : ℕ) → 1 < low_bit k → 1 < low_bit (k / 2) → (k - s) + (s - k) ≡ low_bit k / 2
        → ((k / 2 - s / 2) + (s / 2 - k / 2) ≡ low_bit (k / 2) / 2 → low_bit (k / 2) ≡ 2 * low_bit (s / 2))
        → low_bit k ≡ 2 * low_bit s
    twice k s h l away below =
        let even : k % 2 ≡ 0 = low_even k h in
        let low : low_bit k ≡ 2 * low_bit (k / 2) = low_bit_even k even in
        let lower : low_bit (k / 2) ≡ 2 * low_bit (k / 2 / 2) = low_bit_even (k / 2) (low_even (k / 2) l) in
        let half : low_bit k / 2 ≡ 2 * (low_bit (k / 2) / 2) = omega arith in
        let (even_too, halves) = even_away k s (low_bit (k / 2) / 2) even (away ∙ half) in
        omega (arith, low, below halves, low_bit_even s even_too)

-- two places of a block on one side of k are in the block of that son, whose lowest bit is half
pub left_block : (k i j : ℕ) → i < j → j < k → InBlock k i → InBlock k j
    → (InBlock (left_son k) i × InBlock (left_son k) j) × (low_bit k ≡ 2 * low_bit (left_son k))
left_block k i j h l in_i in_j =
    let low : low_bit k ≡ 2 * low_bit (left_son k) = half_away k (left_son k) (omega (arith, in_i.0)) (omega (arith, low_bit_le k)) in
    (((omega (arith, in_i.0), omega arith), (omega (arith, in_j.0), omega arith)), low)

pub right_block : (k i j : ℕ) → i < j → k ≤ i → InBlock k i → InBlock k j
    → (InBlock (right_son k) i × InBlock (right_son k) j) × (low_bit k ≡ 2 * low_bit (right_son k))
right_block k i j h l in_i in_j =
    let low : low_bit k ≡ 2 * low_bit (right_son k) = half_away k (right_son k) (omega (arith, in_j.1)) (omega arith) in
    (((omega arith, omega (arith, in_i.1)), (omega arith, omega (arith, in_j.1))), low)

-- ---- bit lengths

pub bits_pos : (k : ℕ) → 0 < k → 0 < bits k
bits_pos k h = rw (bits_half k h) (zero-lt-suc (bits (k / 2)))

pub bits_twice : (b : ℕ) → 0 < b → bits (2 * b) ≡ suc (bits b)
bits_twice b h = let half : 2 * b / 2 ≡ b = omega arith in bits_half (2 * b) (omega arith) ∙ rw half

pub bits_mono : (a b : ℕ) → a ≤ b → bits a ≤ bits b
bits_mono a b h = bits_le (bits b) a (omega (arith, lt_pow_bits b))

-- ---- top bits

pub low_bit_top : (t : ℕ) → low_bit (top_bit t) ≡ top_bit t
low_bit_top =
    bin_ind (λ (t : ℕ). low_bit (top_bit t) ≡ top_bit t) (rw (top_bit_small 0 zero-le) low_bit_zero) λ t below.
    ⊎_elim
    (λ l. rw (top_bit_small t l) (small t l))
    (λ l. rw (top_bit_half t l) (low_bit_twice (top_bit (t / 2)) ∙ ap (λ (b : ℕ). 2 * b) below))
    (le_or_lt t 1)
  where
    small : (t : ℕ) → t ≤ 1 → low_bit t ≡ t
    small t l = ⊎_elim (λ even. let none : t ≡ 0 = omega arith in rw none low_bit_zero) (λ odd. let one : 1 ≡ t = omega arith in low_bit_odd t odd ∙ one) (even_or_odd t)

-- the block of the top bit of t holds the places up to t
pub top_block : (t p : ℕ) → 0 < t → p ≤ t → InBlock (top_bit t) p
top_block t p h l = (omega (arith, low_bit_top t), omega (arith, low_bit_top t, top_bit_above t h))

pub bits_top : (t : ℕ) → bits (top_bit t) ≡ bits t
bits_top =
    bin_ind (λ (t : ℕ). bits (top_bit t) ≡ bits t) (rw (top_bit_small 0 zero-le)) λ t below.
    ⊎_elim
    (λ l. rw (top_bit_small t l))
    (λ l. rw (top_bit_half t l, bits_half t (omega arith)) (bits_twice (top_bit (t / 2)) (top_bit_pos (t / 2) (omega arith)) ∙ ap suc below))
    (le_or_lt t 1)
