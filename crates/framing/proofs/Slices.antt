-- Slices of a page: so many of its bytes, from a place on.
use mathlib.Core.Path.{◌≡◌, refl, ap}
use mathlib.Core.List.{List, [], ◌∷◌, ◌++◌}
use Prim.Native.Nat.{ℕ, zero, suc, ◌+◌}
use native.Mathlib.Nat.{zero-add, suc-add, add-zero, add-suc}
use native.Mathlib.Numerals.{add-one}
use lib.ListN.{length, get_or}
use Rattle.subdivision.specs.Lists.{tab, tab_from}
use Rattle.theory.proofs.Lists.{is_tab}

-- so many bytes of the page, from a place on
abbrev pub slice_of : List ℕ → ℕ → ℕ → List ℕ
slice_of page count at = tab_from (λ i. get_or page i 0) count at

-- values in a row are those of a first part and those of the rest
tab_from_join : {A : Type 0} (f : ℕ → A) (m n at : ℕ) → tab_from f (m + n) at ≡ tab_from f m at ++ tab_from f n (at + m)
tab_from_join f zero n at = rw (zero-add, add-zero)
tab_from_join f (suc m) n at = rw (suc-add, add-suc, ← suc-add) (ap (◌∷◌ (f at)) (tab_from_join f m n (suc at)))

-- a slice is a first part of it and the rest
pub slice_join : (page : List ℕ) (m n at : ℕ) → slice_of page (m + n) at ≡ slice_of page m at ++ slice_of page n (at + m)
slice_join page m n at = tab_from_join (λ i. get_or page i 0) m n at

-- a slice longer by one byte ends in that byte
pub slice_more : (page : List ℕ) (count at : ℕ) → slice_of page (suc count) at ≡ slice_of page count at ++ (get_or page (at + count) 0 ∷ [])
slice_more page count at = rw add-one at (slice_join page count 1 at)

-- a page is its slice from the start, as long as the page
pub whole_slice : (page : List ℕ) → page ≡ slice_of page (length page) 0
unfolding tab
whole_slice page = is_tab (λ i. get_or page i 0) 0 page (length page) refl (λ i h. refl)
