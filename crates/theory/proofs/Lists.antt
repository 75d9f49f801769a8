-- Laws of lists: a function's values, what is past a place, and a part of a table of zeros.
use mathlib.Core.Path.{◌≡◌, refl, sym, ap, ◌∙◌}
use mathlib.Core.List.{List, [], ◌∷◌, ◌++◌}
use Prim.Native.Nat.{ℕ, zero, suc, ◌+◌, ◌-◌, ◌<◌, ◌≤◌}
use native.Mathlib.Nat.{add-zero, zero-add, add-suc, suc-add, le_of_suc-le-suc, not-suc-le-zero}
use native.Mathlib.Numerals.{add-one}
use native.Mathlib.Omega.{arith}
use lib.ListN.{length, get_or, take, drop, replicate, length-replicate}
use lib.Seq.{length-take-le, drop-drop, ext_get_or}
use Rattle.subdivision.specs.Lists.{tab, tab_from}

module _ {A : Type 0} (f : ℕ → A) where
  tab_from_more : (n at : ℕ) → tab_from f (suc n) at ≡ tab_from f n at ++ (f (at + n) ∷ [])
  tab_from_more zero at = rw add-zero
  tab_from_more (suc n) at = rw (add-suc, ← suc-add) (ap (λ (l : List A). f at ∷ l) (tab_from_more n (suc at)))

  -- a loop that goes up adds the next value at the end
  pub tab_more : (n : ℕ) → tab f (n + 1) ≡ tab f n ++ (f n ∷ [])
  unfolding tab
  tab_more n = rw (add-one n) (rw zero-add at (tab_from_more n zero))

  length_tab_from : (n at : ℕ) → length (tab_from f n at) ≡ n
  length_tab_from zero at = refl
  length_tab_from (suc n) at = ap suc (length_tab_from n (suc at))

  pub length_tab : (n : ℕ) → length (tab f n) ≡ n
  unfolding tab
  length_tab n = length_tab_from n zero

  get_d_tab_from : (n at i : ℕ) (d : A) → i < n → get_or (tab_from f n at) i d ≡ f (at + i)
  get_d_tab_from zero at i d h = absurd (not-suc-le-zero h)
  get_d_tab_from (suc n) at zero d h = rw add-zero
  get_d_tab_from (suc n) at (suc i) d h = rw (add-suc, ← suc-add) (get_d_tab_from n (suc at) i d (le_of_suc-le-suc h))

  -- the value at a place of the list
  pub get_d_tab : (n i : ℕ) (d : A) → i < n → get_or (tab f n) i d ≡ f i
  unfolding tab
  get_d_tab n i d h = rw zero-add at (get_d_tab_from n zero i d h)

-- a list is the values that stand at its places
pub is_tab : {A : Type 0} (f : ℕ → A) (d : A) (l : List A) (n : ℕ) → length l ≡ n → ((i : ℕ) → i < n → get_or l i d ≡ f i) → l ≡ tab f n
is_tab f d l n long at =
    ext_get_or d l (tab f n) (long ∙ sym (length_tab f n)) (λ i h. let b : i < n = rw long at h in at i b ∙ sym (get_d_tab f n i d b))

-- functions that agree below the count have the same values
pub tab_same : {A : Type 0} (f g : ℕ → A) (n : ℕ) → ((i : ℕ) → i < n → f i ≡ g i) → tab f n ≡ tab g n
tab_same f g n e = is_tab g (f zero) (tab f n) n (length_tab f n) (λ i h. get_d_tab f n i (f zero) h ∙ e i h)

-- lists that agree past a place agree past every later one
pub past_later : (n k : ℕ) (l m : List ℕ) → drop k l ≡ drop k m → k ≤ n → drop n l ≡ drop n m
past_later n k l m e h =
    let at : k + (n - k) ≡ n = omega arith in
    rw at at (sym (drop-drop (n - k) k l) ∙ ap (drop (n - k)) e ∙ drop-drop (n - k) k m)

-- a part of a table of zeros is as long as asked
pub zeros_part : (room n : ℕ) → n ≤ room → n ≡ length (take n (replicate {A = ℕ} room 0))
zeros_part room n h = sym (length-take-le n (replicate {A = ℕ} room 0) (rw length-replicate h))
