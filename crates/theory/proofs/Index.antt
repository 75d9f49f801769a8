-- The words that opening leaves, read through the layout: each look-up gives what the tables alone give.
use mathlib.Core.Path.{◌≡◌, sym, ap, ◌∙◌}
use mathlib.Core.List.{List, ◌++◌}
use Prim.Native.Nat.{ℕ, suc, ◌+◌, ◌*◌, ◌<◌, ◌≤◌}
use native.Mathlib.Omega.{arith}
use lib.ListN.{get_or, get_or-append}
use lib.Seq.{get_or-append-add}
use Rattle.subdivision.specs.Lists.{tab}
use Rattle.subdivision.specs.Sheet.{Sheet, zone_count}
use Rattle.subdivision.specs.Index.{place_of, zone_at, start_of, entry_at, index_words}
use Rattle.subdivision.specs.Layout.{place_word, zone_word, start_word, entry_word}
use Rattle.theory.proofs.Lists.{length_tab, get_d_tab}

-- past a list of values, what follows is read
get_d_past_tab : (f : ℕ → ℕ) (n : ℕ) (rest : List ℕ) (i : ℕ) → get_or (tab f n ++ rest) (n + i) 0 ≡ get_or rest i 0
get_d_past_tab f n rest i =
    ap (λ (k : ℕ). get_or (tab f n ++ rest) (k + i) 0) (sym (length_tab f n)) ∙ get_or-append-add (tab f n) rest i 0

get_d_in_tab : (f : ℕ → ℕ) (n : ℕ) (rest : List ℕ) (i : ℕ) → i < n → get_or (tab f n ++ rest) i 0 ≡ f i
get_d_in_tab f n rest i h = get_or-append (tab f n) rest 0 i (rw (length_tab f n) h) ∙ get_d_tab f n i 0 h

module _ (s : Sheet) where
  pub index_place : (z : ℕ) → z < zone_count s → get_or (index_words s) (place_word (zone_count s) z) 0 ≡ place_of s z
  unfolding index_words
  index_place z h = get_d_in_tab (place_of s) (zone_count s) _ z h

  pub index_zone : (p : ℕ) → p < zone_count s → get_or (index_words s) (zone_word (zone_count s) p) 0 ≡ zone_at s p
  unfolding index_words
  index_zone p h = get_d_past_tab (place_of s) (zone_count s) _ p ∙ get_d_in_tab (zone_at s) (zone_count s) _ p h

  pub index_start : (k : ℕ) → k ≤ zone_count s → get_or (index_words s) (start_word (zone_count s) k) 0 ≡ start_of s k
  unfolding index_words
  index_start k h =
      let at : 2 * zone_count s + k ≡ zone_count s + (zone_count s + k) = omega arith in
      rw at (get_d_past_tab (place_of s) (zone_count s) _ (zone_count s + k) ∙ get_d_past_tab (zone_at s) (zone_count s) _ k ∙ get_d_in_tab (start_of s) (suc (zone_count s)) _ k (omega arith))

  pub index_entry : (t : ℕ) → get_or (index_words s) (entry_word (zone_count s) t) 0 ≡ entry_at s t
  unfolding index_words entry_at
  index_entry t =
      let at : 3 * zone_count s + 1 + t ≡ zone_count s + (zone_count s + (suc (zone_count s) + t)) = omega arith in
      rw at (get_d_past_tab (place_of s) (zone_count s) _ (zone_count s + (suc (zone_count s) + t)) ∙ get_d_past_tab (zone_at s) (zone_count s) _ (suc (zone_count s) + t) ∙ get_d_past_tab (start_of s) (suc (zone_count s)) _ t)
