-- Tables of numbers read back from the lines that hold them: the words of vertices and of points, two a line, and of edges, four a line.
use mathlib.Core.Path.{◌≡◌, refl, sym, ap, ◌∙◌}
use mathlib.Core.List.{List}
use Prim.Native.Nat.{ℕ, zero, suc, ◌+◌, ◌*◌, ◌/◌, ◌%◌, ◌<◌}
use native.Mathlib.Nat.{add-zero, div-add-mod}
use native.Mathlib.Omega.{arith}
use lib.IntN.{ℤ, pos}
use lib.ListN.{length, get_or}
use lib.Signed.{mag}
use Rattle.subdivision.specs.Limits.{origin}
use Rattle.subdivision.specs.Lists.{tab}
use Rattle.theory.proofs.Lists.{is_tab}
use Rattle.frames.specs.Digits.{signed_of, word_of}
use Rattle.frames.specs.Pages.{number_of}
use Rattle.frames.specs.Texts.{pair_numbers, edge_numbers}
use Rattle.framing.proofs.TextDigits.{signed_word, word_fits}
use Rattle.framing.proofs.TextFrames.{AllWords, FrameLines}

-- ---- pairs

-- the numbers of a pair are of four bytes
pub pair_fits : (table : List ℤ) → ((i : ℕ) → mag (get_or table i (pos 0)) < origin) → (i : ℕ) → AllWords (pair_numbers table i)
pair_fits table fit i = (word (2 * i), (word (2 * i + 1), tt))
  where
    word : (j : ℕ) → word_of (get_or table j (pos 0)) < 4294967296
    word j = word_fits (get_or table j (pos 0)) (fit j)

-- number r of pair q is word 2 q + r of the table
pair_word : (table : List ℤ) (q r : ℕ) → r < 2 → get_or (pair_numbers table q) r 0 ≡ word_of (get_or table (2 * q + r) (pos 0))
pair_word table q zero h = ap (λ (i : ℕ). word_of (get_or table i (pos 0))) (sym (add-zero (2 * q)))
pair_word table q (suc zero) h = refl
pair_word table q (suc (suc r)) h = absurd (omega arith)

-- a table of pairs is read back from its lines
pub pairs_back : {page : List ℕ} {table : List ℤ} {at k kind count : ℕ} → FrameLines page at k kind (pair_numbers table) count
    → length table ≡ 2 * count → ((i : ℕ) → mag (get_or table i (pos 0)) < origin)
    → tab (λ i. signed_of (number_of page (k + i / 2) (i % 2))) (2 * count) ≡ table
pairs_back {page} {table} {at} {k} {kind} {count} lines long fit =
    sym (is_tab (λ i. signed_of (number_of page (k + i / 2) (i % 2))) (pos 0) table (2 * count) long (λ i h. sym (word i h)))
  where
    word : (i : ℕ) → i < 2 * count → signed_of (number_of page (k + i / 2) (i % 2)) ≡ get_or table i (pos 0)
    word i h =
        ap signed_of ((lines.read (i / 2) (omega arith)).numbers_read (i % 2) (omega arith))
        ∙ ap signed_of (pair_word table (i / 2) (i % 2) (omega arith))
        ∙ signed_word (get_or table (2 * (i / 2) + i % 2) (pos 0)) (fit (2 * (i / 2) + i % 2))
        ∙ ap (λ (j : ℕ). get_or table j (pos 0)) (div-add-mod i 2)

-- ---- edges

-- the numbers of an edge are of four bytes
pub edge_fits : (table : List ℕ) → ((i : ℕ) → get_or table i 0 < 4294967296) → (i : ℕ) → AllWords (edge_numbers table i)
edge_fits table fit i = (fit (4 * i), (fit (4 * i + 1), (fit (4 * i + 2), (fit (4 * i + 3), tt))))

-- number r of edge q is word 4 q + r of the table
edge_word_lem : (table : List ℕ) (q r : ℕ) → r < 4 → get_or (edge_numbers table q) r 0 ≡ get_or table (4 * q + r) 0
edge_word_lem table q zero h = ap (λ (i : ℕ). get_or table i 0) (sym (add-zero (4 * q)))
edge_word_lem table q (suc zero) h = refl
edge_word_lem table q (suc (suc zero)) h = refl
edge_word_lem table q (suc (suc (suc zero))) h = refl
edge_word_lem table q (suc (suc (suc (suc r)))) h = absurd (omega arith)

-- a table of edges is read back from its lines
pub edges_back : {page table : List ℕ} {at k kind count : ℕ} → FrameLines page at k kind (edge_numbers table) count
    → length table ≡ 4 * count → tab (λ i. number_of page (k + i / 4) (i % 4)) (4 * count) ≡ table
edges_back {page} {table} {at} {k} {kind} {count} lines long =
    sym (is_tab (λ i. number_of page (k + i / 4) (i % 4)) 0 table (4 * count) long (λ i h. sym (word i h)))
  where
    word : (i : ℕ) → i < 4 * count → number_of page (k + i / 4) (i % 4) ≡ get_or table i 0
    word i h =
        (lines.read (i / 4) (omega arith)).numbers_read (i % 4) (omega arith)
        ∙ edge_word_lem table (i / 4) (i % 4) (omega arith)
        ∙ ap (λ (j : ℕ). get_or table j 0) (div-add-mod i 4)
