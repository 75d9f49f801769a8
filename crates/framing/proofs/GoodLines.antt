-- A page whose lines are the frames that its head counts is good.
use mathlib.Core.Path.{◌≡◌, sym, subst, ◌∙◌}
use mathlib.Core.List.{List}
use Prim.Native.Nat.{ℕ, ◌+◌, ◌-◌, ◌<◌}
use native.Mathlib.Decide.{dec_lt}
use native.Mathlib.Omega.{arith}
use lib.ListN.{length}
use Rattle.subdivision.specs.Formula.{Means}
use Rattle.subdivision.specs.Refusals.{counts_within}
use Rattle.frames.specs.Lines.{line_start, line_end, kind_at}
use Rattle.frames.specs.Pages.{kind_in_order, head_vertices, head_edges, head_zones, wanted_kind, is_good, is_end, GoodBefore, GoodPage}
use Rattle.framing.proofs.TextFrames.{FrameRead, FrameLines}

-- the head counts so many vertices, edges and zones, and no count is beyond its limit
pub record HeadCounts (page : List ℕ) (v m n : ℕ) : Type 0 where
  pub vertices : head_vertices page ≡ v
  pub edges : head_edges page ≡ m
  pub zones : head_zones page ≡ n
  pub within : Means (counts_within v m n)

-- ---- good lines

-- counts that are within their limits, by equal numbers
counts_same : (a b c v m n : ℕ) → a ≡ v → b ≡ m → c ≡ n → Means (counts_within v m n) → Means (counts_within a b c)
counts_same a b c v m n ea eb ec within = omega arith

-- the line after v vertices, m edges and some points is past the edges
past_edges : (a b v m count : ℕ) → a ≡ v → b ≡ m → a + b < 1 + v + m + count
past_edges a b v m count ea eb = omega arith

-- good lines, and as many more
good_more : (page : List ℕ) (k count : ℕ) → GoodBefore page k → ((i : ℕ) → i < count → Means (is_good page (k + i)))
    → GoodBefore page (k + count)
good_more page k count before next j h = go (dec_lt j k)
  where
    go : Dec (j < k) → Means (is_good page j)
    go (yes l) = before j l
    go (no l) =
        let place : k + (j - k) ≡ j = omega arith in
        subst (λ (i : ℕ). Means (is_good page i)) place (next (j - k) (omega arith))

module _ {page : List ℕ} {v m n : ℕ} (head : HeadCounts page v m n) where
  -- a line that reads a frame of the kind that it is to be of is good
  pub good_line : (k : ℕ) {kind : ℕ} {ws : List ℕ} → kind_in_order v m k ≡ kind → FrameRead page (line_start page k) kind ws
      → Means (is_good page k)
  good_line k e r = (whole, (r.made, (order, λ z. limits)))
    where
      whole : line_end page (line_start page k) < length page
      whole = subst (λ (a : ℕ). a < length page) (sym r.end) r.whole

      order : kind_at page (line_start page k) ≡ wanted_kind page k
      order = r.kind_read ∙ sym e ∙ λ i. kind_in_order (sym head.vertices i) (sym head.edges i) k

      limits : Means (counts_within (head_vertices page) (head_edges page) (head_zones page))
      limits =
          counts_same (head_vertices page) (head_edges page) (head_zones page) v m n
          head.vertices head.edges head.zones head.within

  -- good lines, and frames of the kind that they are to be of after them
  pub good_lines : {at k kind : ℕ} {numbers : ℕ → List ℕ} {count : ℕ} → ((i : ℕ) → i < count → kind_in_order v m (k + i) ≡ kind)
      → FrameLines page at k kind numbers count → GoodBefore page k → GoodBefore page (k + count)
  good_lines {at} {k} {kind} {numbers} {count} kinds lines before =
      good_more page k count before (λ i h. good_line (k + i) (kinds i h) (lines.read i h))

  -- a page that ends after the points ends where it may
  pub good_end : (count : ℕ) → line_start page (1 + v + m + count) ≡ length page → Means (is_end page (1 + v + m + count))
  good_end count end = (end, past_edges (head_vertices page) (head_edges page) v m count head.vertices head.edges)

  -- a page whose lines are good up to its end is good
  pub good_page : (count : ℕ) → GoodBefore page (1 + v + m + count) → Means (is_end page (1 + v + m + count)) → GoodPage page count
  good_page count good end =
      subst (λ (k : ℕ). GoodBefore page k × Means (is_end page k)) lines (good, end)
    where
      lines : 1 + v + m + count ≡ 1 + head_vertices page + head_edges page + count
      lines = λ i. 1 + sym head.vertices i + sym head.edges i + count
