-- Laws of how long frames, and the text of a sheet with its points, are.
use mathlib.Core.Path.{◌≡◌, refl, ◌∙◌}
use mathlib.Core.List.{List, [], ◌∷◌, ◌++◌}
use Prim.Native.Nat.{ℕ, zero, suc, ◌+◌, ◌*◌, ◌/◌}
use native.Mathlib.Omega.{arith}
use lib.IntN.{ℤ}
use lib.ListN.{length, length-append}
use Rattle.io.specs.Digits.{last_digits}
use Rattle.subdivision.specs.Sheet.{Sheet, vertex_count, edge_count}
use Rattle.frames.specs.Lines.{newline}
use Rattle.frames.specs.Texts.{numbers_text, frame_text, frames_text, pair_numbers, edge_numbers, head_numbers, page_text}
use Rattle.framing.proofs.TextDigits.{length_digits}

-- numbers as text are eight bytes each
pub length_numbers : (ws : List ℕ) → length (numbers_text ws) ≡ 8 * length ws
length_numbers [] = refl
length_numbers (w ∷ ws) = omega (arith, length-append (last_digits 16 8 w) (numbers_text ws), length_digits 16 8 w, length_numbers ws)

-- how long a frame with its newline is
pub frame_long : (kind : ℕ) (ns : List ℕ) → length (frame_text kind ns) ≡ 3 + 8 * length ns
frame_long kind ns =
    omega (arith, length-append (last_digits 16 2 kind) (numbers_text ns ++ (newline ∷ [])), length_digits 16 2 kind, length-append (numbers_text ns) (newline ∷ []), length_numbers ns)

-- how long so many frames are, with so many numbers each
pub frames_long : (kind n : ℕ) (numbers : ℕ → List ℕ) → ((i : ℕ) → length (numbers i) ≡ n) → (count : ℕ) → length (frames_text kind numbers count) ≡ (3 + 8 * n) * count
frames_long kind n numbers long zero = omega arith
frames_long kind n numbers long (suc count) =
    omega (arith, frames_long kind n numbers long count, long count, length-append (frames_text kind numbers count) (frame_text kind (numbers count)), frame_long kind (numbers count))

-- four texts one after another
four_lengths : (a b c d : List ℕ) → length (a ++ (b ++ (c ++ d))) ≡ length a + length b + length c + length d
four_lengths a b c d = omega (arith, length-append a (b ++ (c ++ d)), length-append b (c ++ d), length-append c d)

module _ (s : Sheet) (points : List ℤ) where
  -- the text of a sheet with its points: 43 bytes for the head, 19 for each vertex, 35 for each edge, 19 for each point
  pub text_length : length (page_text s points) ≡ 43 + 19 * vertex_count s + 35 * edge_count s + 19 * (length points / 2)
  unfolding page_text
  text_length =
      four_lengths (frame_text 0 (head_numbers s points)) vertices edges sights
      ∙ omega (arith, vertex_bytes, edge_bytes, point_bytes)
    where
      vertices : List ℕ
      vertices = frames_text 1 (pair_numbers s.vertices) (vertex_count s)

      edges : List ℕ
      edges = frames_text 2 (edge_numbers s.edges) (edge_count s)

      sights : List ℕ
      sights = frames_text 3 (pair_numbers points) (length points / 2)

      vertex_bytes : length vertices ≡ 19 * vertex_count s
      vertex_bytes = frames_long 1 2 (pair_numbers s.vertices) (λ i. refl) (vertex_count s)

      edge_bytes : length edges ≡ 35 * edge_count s
      edge_bytes = frames_long 2 4 (edge_numbers s.edges) (λ i. refl) (edge_count s)

      point_bytes : length sights ≡ 19 * (length points / 2)
      point_bytes = frames_long 3 2 (pair_numbers points) (λ i. refl) (length points / 2)
