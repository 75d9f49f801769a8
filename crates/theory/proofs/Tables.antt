-- No default is read: of an edge or a vertex that a sheet has, and of an index with room at the zones, places, chains and entries that there are.
use mathlib.Core.Path.{◌≡◌, refl}
use mathlib.Core.List.{List, [], ◌∷◌}
use Prim.Native.Nat.{ℕ, zero, suc, ◌+◌, ◌*◌, ◌<◌, ◌≤◌}
use native.Mathlib.Nat.{le_of_suc-le-suc, not-suc-le-zero}
use native.Mathlib.Omega.{arith}
use lib.IntN.{ℤ, pos}
use lib.ListN.{length, get_or}
use Rattle.subdivision.specs.Formula.{Means}
use Rattle.subdivision.specs.Sheet.{Sheet, edge_count, vertex_count, west_of, east_of}
use Rattle.subdivision.specs.Layout.{index_need, place_word, zone_word, start_word, entry_word}
use Rattle.subdivision.specs.Rules.{edge_names}

-- inside a list every default reads the same
pub inside_reads_no_default : {A : Type 0} (l : List A) (i : ℕ) (d e : A) → i < length l → get_or l i d ≡ get_or l i e
inside_reads_no_default [] i d e h = absurd (not-suc-le-zero h)
inside_reads_no_default (x ∷ xs) zero d e h = refl
inside_reads_no_default (x ∷ xs) (suc i) d e h = inside_reads_no_default xs i d e (le_of_suc-le-suc h)

-- an index with room holds the place of every zone, the zone at every place, n + 1 starts and m entries
pub index_word_inside : (n m : ℕ)
    → ((z : ℕ) → z < n → place_word n z < index_need n m)
    × ((p : ℕ) → p < n → zone_word n p < index_need n m)
    × ((k : ℕ) → k ≤ n → start_word n k < index_need n m)
    × ((t : ℕ) → t < m → entry_word n t < index_need n m)
index_word_inside n m = (λ z h. omega arith, λ p h. omega arith, λ k h. omega arith, λ t h. omega arith)

module _ (s : Sheet) where
  pub edge_word_inside : (e k : ℕ) → e < edge_count s → k < 4 → 4 * e + k < length s.edges
  edge_word_inside e k h j = omega arith

  pub vertex_word_inside : (v k : ℕ) → v < vertex_count s → k < 2 → 2 * v + k < length s.vertices
  vertex_word_inside v k h j = omega arith

  pub edge_reads_no_default : (e k : ℕ) → e < edge_count s → k < 4 → (d : ℕ) → get_or s.edges (4 * e + k) d ≡ get_or s.edges (4 * e + k) 0
  edge_reads_no_default e k h j d = inside_reads_no_default s.edges (4 * e + k) d 0 (edge_word_inside e k h j)

  pub vertex_reads_no_default : (v k : ℕ) → v < vertex_count s → k < 2 → (d : ℤ) → get_or s.vertices (2 * v + k) d ≡ get_or s.vertices (2 * v + k) (pos 0)
  vertex_reads_no_default v k h j d = inside_reads_no_default s.vertices (2 * v + k) d (pos 0) (vertex_word_inside v k h j)

  -- an edge that keeps refusal 6 has both its vertices inside the table
  pub ends_inside : (e k : ℕ) → Means (edge_names s e) → k < 2 → (2 * west_of s e + k < length s.vertices) × (2 * east_of s e + k < length s.vertices)
  ends_inside e k named j = (vertex_word_inside (west_of s e) k named.0.0 j, vertex_word_inside (east_of s e) k named.0.1 j)
