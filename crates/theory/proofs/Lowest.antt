-- Laws of the lowest number that passes a test.
use mathlib.Core.Path.{◌≡◌, refl, sym, ap, ◌∙◌}
use mathlib.Core.Bool.{Bool, true, false, false≢true}
use mathlib.Core.Logic.{◌⊎◌, inl, inr, ⊎_elim}
use Prim.Native.Nat.{ℕ, zero, suc, ◌+◌, ◌-◌, ◌<◌, ◌≤◌, zero-le, min}
use native.Mathlib.Nat.{lt_irrefl, lt-suc_self, le_refl, not-suc-le-zero, add-zero, add-suc, suc-add}
use native.Mathlib.Numerals.{add-one}
use native.Mathlib.Decide.{dec_le}
use native.Mathlib.Omega.{arith}
use Rattle.std.specs.Prelude.{Option, Some, None, MatchOption, ltb}
use Rattle.std.proofs.lemmas.Bool.{lt-ltb, le-ltb, ltb-true, ltb-false}
use Rattle.subdivision.specs.Lowest.{lowest_from, lowest, found, first}
use Rattle.theory.proofs.Decide.{not_both, true_or_false, below_suc}

-- r is the lowest number below n that passes the test, or n where none does
pub record IsLeast (test : ℕ → Bool) (n r : ℕ) : Type 0 where
  pub within : r ≤ n
  pub before : (k : ℕ) → k < r → test k ≡ false
  pub passes : r < n → test r ≡ true

-- two numbers that are both the lowest are one
pub lowest_one : {test : ℕ → Bool} {n q r : ℕ} → IsLeast test n q → IsLeast test n r → q ≡ r
lowest_one {test} {n} {q} {r} a b = omega (arith, not_less a b, not_less b a)
  where
    not_less : {q r : ℕ} → IsLeast test n q → IsLeast test n r → ¬ (q < r)
    not_less {q} {r} a b l = not_both (a.passes (omega (arith, b.within))) (b.before q l)

lowest_from_is : (test : ℕ → Bool) (left at : ℕ) → ((k : ℕ) → k < at → test k ≡ false) → IsLeast test (left + at) (lowest_from test left at)
lowest_from_is test zero at f = record { within = omega arith; before = f; passes = λ l. absurd (lt_irrefl at (omega arith)) }
lowest_from_is test (suc left) at f = go (test at) refl (lowest_from_is test left (suc at))
  where
    go : (b : Bool) → test at ≡ b
        → (((k : ℕ) → k < suc at → test k ≡ false) → IsLeast test (left + suc at) (lowest_from test left (suc at)))
        → IsLeast test (suc left + at) (elim b [ true ↦ at | false ↦ lowest_from test left (suc at) ])
    go true e rest = record { within = omega arith; before = f; passes = λ l. e }
    go false e rest =
        let same : left + suc at ≡ suc left + at = omega arith in
        rw same at (rest (λ k h. ⊎_elim (λ (i : k ≡ at). rw i e) (f k) (below_suc h)))

pub lowest_is : (test : ℕ → Bool) (n : ℕ) → IsLeast test n (lowest test n)
unfolding lowest
lowest_is test n = rw add-zero at (lowest_from_is test n 0 (λ k h. absurd (lt_irrefl k (omega arith))))

-- a number with these three facts is the lowest
pub is_lowest_lem : {test : ℕ → Bool} {n r : ℕ} → IsLeast test n r → lowest test n ≡ r
is_lowest_lem {test} {n} a = lowest_one (lowest_is test n) a

-- nothing below the lowest passes
pub lowest_before : (test : ℕ → Bool) (n k : ℕ) → k < lowest test n → test k ≡ false
lowest_before test n = (lowest_is test n).before

-- the lowest passes, where it is below the count
pub lowest_passes : (test : ℕ → Bool) (n : ℕ) → lowest test n < n → test (lowest test n) ≡ true
lowest_passes test n = (lowest_is test n).passes

pub lowest_le : (test : ℕ → Bool) (n : ℕ) → lowest test n ≤ n
lowest_le test n = (lowest_is test n).within

-- the lowest is at most any number that passes
pub lowest_at_most : (test : ℕ → Bool) (n k : ℕ) → test k ≡ true → lowest test n ≤ k
lowest_at_most test n k e = omega (arith, not_above)
  where
    not_above : ¬ (k < lowest test n)
    not_above l = not_both e (lowest_before test n k l)

-- where none below the count passes, the lowest is the count
pub lowest_none : (test : ℕ → Bool) (n : ℕ) → ((k : ℕ) → k < n → test k ≡ false) → lowest test n ≡ n
lowest_none test n f = is_lowest_lem (record { within = omega arith; before = f; passes = λ l. absurd (lt_irrefl n l) })

-- a search from i on goes on where i does not pass
pub lowest_from_next : (test : ℕ → Bool) (n i : ℕ) → i < n → test i ≡ false → lowest_from test (n - i) i ≡ lowest_from test (n - suc i) (suc i)
lowest_from_next test n i h e = let more : n - i ≡ suc (n - suc i) = omega arith in rw more (rw (e, lowest_from))

-- a search from i on ends at i where i passes
pub lowest_from_found : (test : ℕ → Bool) (n i : ℕ) → i < n → test i ≡ true → lowest_from test (n - i) i ≡ i
lowest_from_found test n i h e = let more : n - i ≡ suc (n - suc i) = omega arith in rw more (rw (e, lowest_from))

-- a search from the end on is there already
pub lowest_from_end : (test : ℕ → Bool) (n i : ℕ) → n ≤ i → lowest_from test (n - i) i ≡ i
lowest_from_end test n i h = let none : n - i ≡ 0 = omega arith in rw none refl

-- a search from i on is the whole search where nothing before i passes
pub lowest_from_lem : (test : ℕ → Bool) (n i : ℕ) → i ≤ n → ((k : ℕ) → k < i → test k ≡ false) → lowest_from test (n - i) i ≡ lowest test n
lowest_from_lem test n i h f =
    let whole : n - i + i ≡ n = omega arith in
    sym (is_lowest_lem (rw whole at (lowest_from_is test (n - i) i f)))

-- a search from a place on does not go back
pub lowest_from_on : (test : ℕ → Bool) (left at : ℕ) → at ≤ lowest_from test left at
lowest_from_on test zero at = le_refl at
lowest_from_on test (suc left) at = go (test at) (lowest_from_on test left (suc at))
  where
    go : (t : Bool) → suc at ≤ lowest_from test left (suc at) → at ≤ elim t [ true ↦ at | false ↦ lowest_from test left (suc at) ]
    go true rest = le_refl at
    go false rest = omega arith

-- a search from a place on that ends before its last number has found one that passes
pub lowest_from_passes : (test : ℕ → Bool) (left at : ℕ) → lowest_from test left at < at + left → test (lowest_from test left at) ≡ true
lowest_from_passes test zero at h = absurd (omega arith)
lowest_from_passes test (suc left) at h = go (test at) refl h (lowest_from_passes test left (suc at))
  where
    rest : ℕ
    rest = lowest_from test left (suc at)

    go : (t : Bool) → test at ≡ t → (elim t [ true ↦ at | false ↦ rest ]) < at + suc left
        → (rest < suc at + left → test rest ≡ true) → test (elim t [ true ↦ at | false ↦ rest ]) ≡ true
    go true e h later = e
    go false e h later = later (omega arith)

-- a search from a place on ends at the first number that passes
pub lowest_from_first : (test : ℕ → Bool) (n at k : ℕ) → at + k < n → ((i : ℕ) → i < k → test (at + i) ≡ false) → test (at + k) ≡ true
    → lowest_from test (n - at) at ≡ at + k
lowest_from_first test n at zero h f e =
    rw add-zero (lowest_from_found test n at (omega arith) (rw add-zero at e))
lowest_from_first test n at (suc k) h f e =
    lowest_from_next test n at (omega arith) (rw add-zero at (f 0 (omega arith)))
    ∙ rw (add-suc at k, ← (suc-add at k)) (lowest_from_first test n (suc at) k (omega arith) later (rw (suc-add at k, ← (add-suc at k)) e))
  where
    later : (i : ℕ) → i < k → test (suc at + i) ≡ false
    later i l = rw (suc-add at i, ← (add-suc at i)) (f (suc i) (omega arith))

-- a search that has come to r, of n numbers, has passed none that passes the test
abbrev pub Searched : (ℕ → Bool) → ℕ → ℕ → Type 0
Searched test n r = (r ≤ n) × ((k : ℕ) → k < r → test k ≡ false)

pub search_starts : (test : ℕ → Bool) (n : ℕ) → Searched test n 0
search_starts test n = (zero-le, λ k h. absurd (not-suc-le-zero h))

pub search_goes_on : (test : ℕ → Bool) (n r : ℕ) → Searched test n r → r < n → test r ≡ false → Searched test n (r + 1)
search_goes_on test n r s h e =
    (omega arith, λ k l. ⊎_elim (λ (i : k ≡ r). rw i e) (s.1 k) (below_suc (rw (add-one r) at l)))

-- a search that stops at the end, or at a number that passes, stops at the lowest that does
pub search_ends : (test : ℕ → Bool) (n r : ℕ) → Searched test n r → (r < n → test r ≡ true) → r ≡ lowest test n
search_ends test n r s stop = sym (is_lowest_lem (record { within = s.0; before = s.1; passes = stop }))

-- two tests that agree below the count have the same lowest
pub lowest_same : (test other : ℕ → Bool) (n : ℕ) → ((k : ℕ) → k < n → test k ≡ other k) → lowest test n ≡ lowest other n
lowest_same test other n f =
    is_lowest_lem (record { within = lowest_le other n; before = λ k h. f k (omega (arith, lowest_le other n)) ∙ lowest_before other n k h; passes = λ h. f (lowest other n) h ∙ lowest_passes other n h })

-- the least of the items i below a count that pass a test, and of one more number
abbrev pub least_of : (ℕ → Bool) → (ℕ → ℕ) → ℕ → ℕ → ℕ
least_of test item zero most = most
least_of test item (suc i) most = elim (test i) [ true ↦ min (item i) (least_of test item i most) | false ↦ least_of test item i most ]

module _ (test : ℕ → Bool) (item : ℕ → ℕ) (most : ℕ) where
  -- one item more
  pub least_more : (i : ℕ)
      → least_of test item (i + 1) most ≡ elim (test i) [ true ↦ min (item i) (least_of test item i most) | false ↦ least_of test item i most ]
  least_more i = rw (add-one i)

  -- one item more, which passes
  pub least_with : (i : ℕ) → test i ≡ true → least_of test item (i + 1) most ≡ min (item i) (least_of test item i most)
  least_with i e = least_more i ∙ rw e

  -- one item more, which fails
  pub least_without : (i : ℕ) → test i ≡ false → least_of test item (i + 1) most ≡ least_of test item i most
  least_without i e = least_more i ∙ rw e

  least_le_most : (c : ℕ) → least_of test item c most ≤ most
  least_le_most zero = le_refl most
  least_le_most (suc c) = go (test c) (least_le_most c)
    where
      go : (b : Bool) → least_of test item c most ≤ most
          → (elim b [ true ↦ min (item c) (least_of test item c most) | false ↦ least_of test item c most ]) ≤ most
      go true h = omega arith
      go false h = h

  -- the least is at most each item that passes
  pub least_le_item : (c i : ℕ) → i < c → test i ≡ true → least_of test item c most ≤ item i
  least_le_item zero i h e = absurd (not-suc-le-zero h)
  least_le_item (suc c) i h e = go (test c) refl (least_le_item c i) (below_suc h)
    where
      go : (b : Bool) → test c ≡ b → (i < c → test i ≡ true → least_of test item c most ≤ item i) → (i ≡ c) ⊎ (i < c)
          → (elim b [ true ↦ min (item c) (least_of test item c most) | false ↦ least_of test item c most ]) ≤ item i
      go true t rest (inl j) = omega (arith, ap item j)
      go false t rest (inl j) = absurd (not_both (rw j at e) t)
      go true t rest (inr l) = omega (arith, rest l e)
      go false t rest (inr l) = rest l e

  -- the least is one of the items that pass, or the one more number
  pub least_is_one : (c : ℕ) → (least_of test item c most ≡ most) ⊎ ((i : ℕ) × (i < c) × (test i ≡ true) × (least_of test item c most ≡ item i))
  least_is_one zero = inl refl
  least_is_one (suc c) = go (test c) refl (least_is_one c)
    where
      least : ℕ
      least = least_of test item c most

      up : {r : ℕ} → (r ≡ most) ⊎ ((i : ℕ) × (i < c) × (test i ≡ true) × (r ≡ item i)) → (r ≡ most) ⊎ ((i : ℕ) × (i < suc c) × (test i ≡ true) × (r ≡ item i))
      up (inl e) = inl e
      up (inr f) = inr (f.0, omega (arith, f.1), f.2, f.3)

      go : (b : Bool) → test c ≡ b → (least ≡ most) ⊎ ((i : ℕ) × (i < c) × (test i ≡ true) × (least ≡ item i))
          → ((elim b [ true ↦ min (item c) least | false ↦ least ]) ≡ most)
          ⊎ ((i : ℕ) × (i < suc c) × (test i ≡ true) × ((elim b [ true ↦ min (item c) least | false ↦ least ]) ≡ item i))
      go false t one = up one
      go true t one = smaller (dec_le (item c) least)
        where
          smaller : Dec (item c ≤ least) → (min (item c) least ≡ most) ⊎ ((i : ℕ) × (i < suc c) × (test i ≡ true) × (min (item c) least ≡ item i))
          smaller (yes h) = inr (c, lt-suc_self c, t, omega arith)
          smaller (no h) = let same : min (item c) least ≡ least = omega arith in rw same (up one)

-- where the passing items are the numbers below n that pass another test, the least of them and of n is the lowest such number
pub least_is_lowest : (test : ℕ → Bool) (item : ℕ → ℕ) (passes : ℕ → Bool) (c n : ℕ)
    → ((i : ℕ) → i < c → test i ≡ true → (item i < n) × (passes (item i) ≡ true))
    → ((k : ℕ) → k < n → passes k ≡ true → (i : ℕ) × (i < c) × (test i ≡ true) × (item i ≡ k))
    → least_of test item c n ≡ lowest passes n
least_is_lowest test item passes c n sound whole =
    sym (is_lowest_lem (record { within = within; before = before; passes = λ h. least_passes h (least_is_one test item n c) }))
  where
    least : ℕ
    least = least_of test item c n

    within : least ≤ n
    within = least_le_most test item n c

    not_passed : (k : ℕ) → k < least → passes k ≡ true → ⊥
    not_passed k h e =
        let i = whole k (omega (arith, within)) e in
        omega (arith, least_le_item test item n c i.0 i.1 i.2, i.3)

    before : (k : ℕ) → k < least → passes k ≡ false
    before k h = ⊎_elim (λ e. absurd (not_passed k h e)) (λ e. e) (true_or_false (passes k))

    least_passes : least < n → (least ≡ n) ⊎ ((i : ℕ) × (i < c) × (test i ≡ true) × (least ≡ item i)) → passes least ≡ true
    least_passes h (inl e) = absurd (omega arith)
    least_passes h (inr i) = rw i.3 (sound i.0 i.1 i.2).1

-- a number below the count is found
pub found_below : (count k : ℕ) → k < count → found count k ≡ Some k
found_below count k h = rw (lt-ltb k count h, found) refl

-- a number that is not below the count is not found
pub found_past : (count k : ℕ) → count ≤ k → found count k ≡ None
found_past count k h = rw (le-ltb k count h, found) refl

-- what is found is the number, and it is below the count
pub found_some : (count k i : ℕ) → found count k ≡ Some i → (k ≡ i) × (k < count)
found_some count k i e = go (ltb k count) refl e
  where
    go : (b : Bool) → ltb k count ≡ b → ◌≡◌ {A = Option ℕ} (elim b [ true ↦ Some k | false ↦ None ]) (Some i) → (k ≡ i) × (k < count)
    go true t p = (cc, ltb-true k count t)
    go false t p = absurd (false≢true cc)

-- where nothing is found the number is not below the count
pub found_none : (count k : ℕ) → found count k ≡ None → count ≤ k
found_none count k e = go (ltb k count) refl e
  where
    go : (b : Bool) → ltb k count ≡ b → ◌≡◌ {A = Option ℕ} (elim b [ true ↦ Some k | false ↦ None ]) None → count ≤ k
    go true t p = absurd (false≢true cc)
    go false t p = ltb-false k count t

-- a first number is the lowest, and below the count
pub first_some : (test : ℕ → Bool) (count i : ℕ) → first test count ≡ Some i → (lowest test count ≡ i) × (i < count)
first_some test count i e = let f = found_some count (lowest test count) i e in (f.0, rw f.0 at f.1)

-- where there is no first number the lowest is the count
pub first_none : (test : ℕ → Bool) (count : ℕ) → first test count ≡ None → lowest test count ≡ count
first_none test count e = omega (arith, lowest_le test count, found_none count (lowest test count) e)

-- what passes at i, and nowhere before, is first
pub first_at : (test : ℕ → Bool) (count i : ℕ) → i < count → test i ≡ true → ((k : ℕ) → k < i → test k ≡ false) → Some i ≡ first test count
first_at test count i h e f =
    let same : lowest test count ≡ i = is_lowest_lem (record { within = omega arith; before = f; passes = λ l. e }) in
    rw same (sym (found_below count i h))

-- where nothing passes there is no first number
pub first_nowhere : (test : ℕ → Bool) (count : ℕ) → ((k : ℕ) → k < count → test k ≡ false) → None ≡ first test count
first_nowhere test count f = rw (lowest_none test count f) (sym (found_past count count (le_refl count)))

-- what `find` gives over the numbers below a count is the first
pub first_found : (test : ℕ → Bool) (count : ℕ) (r : Option ℕ)
    → MatchOption r ((k : ℕ) → 0 ≤ k → k < count → test k ≡ false) (λ i. (0 ≤ i) × (i < count) × (test i ≡ true) × ((k : ℕ) → 0 ≤ k → k < i → test k ≡ false))
    → r ≡ first test count
first_found test count None h = first_nowhere test count (λ k l. h k zero-le l)
first_found test count (Some i) h = first_at test count i h.1 h.2 (λ k l. h.3 k zero-le l)
