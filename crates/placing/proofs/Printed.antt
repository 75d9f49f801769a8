-- What is printed for a sheet and for a page, case by case; and that an index with room asks nothing more than the tables.
use mathlib.Core.Path.{◌≡◌, refl, sym, ap, ◌∙◌}
use mathlib.Core.Bool.{true, false, false≢true}
use mathlib.Core.List.{List, ◌∷◌}
use mathlib.Core.Logic.{⊎_elim}
use Prim.Native.Nat.{ℕ, ◌/◌, ◌<◌, ◌≤◌}
use native.Mathlib.Omega.{arith}
use borrow.Author.Tests.{lt-ltb, le-ltb, le-leb, lt-leb}
use lib.IntN.{ℤ}
use lib.ListN.{length, drop, length-append}
use lib.Seq.{length-take-le}
use Rattle.io.specs.Counts.{IsPrefixLen}
use Rattle.std.specs.Prelude.{Ok, Err}
use Rattle.subdivision.specs.Results.{Verdict, passed, refused}
use Rattle.subdivision.specs.Limits.{program_limits}
use Rattle.subdivision.specs.Formula.{is_at_most, holds, Means}
use Rattle.subdivision.specs.Lists.{put}
use Rattle.subdivision.specs.Layout.{index_need}
use Rattle.subdivision.specs.Sheet.{Sheet, edge_count, zone_count}
use Rattle.subdivision.specs.Refusals.{judged, counts_within_under, limit_refusals, room_refusal, rule_refusals}
use Rattle.subdivision.specs.Faults.{table_refusals, opening_refusals}
use Rattle.frames.specs.Texts.{Written}
use Rattle.frames.specs.Pages.{refused_page, head_vertices, head_edges, head_zones, judged_page, page_sheet, point_words, GoodPage}
use Rattle.frames.specs.Placing.{max_page, max_text, refused_text, answers_text, sheet_text, head_beyond, placed_text, place_page}
use Rattle.theory.proofs.Decide.{decided, held, denies}
use Rattle.theory.proofs.Judgement.{refused_first, passed_first}
use Rattle.framing.proofs.AnswerTexts.{decimal_short, refused_long}

-- with room for its index, opening judges the tables alone
pub opens_by_tables : (s : Sheet) (words : ℕ) → index_need (zone_count s) (edge_count s) ≤ words → judged (opening_refusals s words) ≡ judged (table_refusals s)
opens_by_tables s words h = go (judged (limit_refusals s)) refl
  where
    go : (v : Verdict) → judged (limit_refusals s) ≡ v → judged (opening_refusals s words) ≡ judged (table_refusals s)
    go (Ok u) e =
        passed_first (limit_refusals s) (room_refusal s words ∷ rule_refusals s) e ∙ rw (held (room_refusal s words).kept h, judged) (sym (passed_first (limit_refusals s) (rule_refusals s) e))
    go (Err r) e =
        refused_first (limit_refusals s) (room_refusal s words ∷ rule_refusals s) r.number r.item e ∙ sym (refused_first (limit_refusals s) (rule_refusals s) r.number r.item e)

-- a refused sheet is its refusal's line
pub sheet_refused : (s : Sheet) (points : List ℤ) (number item : ℕ) → judged (table_refusals s) ≡ refused number item → sheet_text s points ≡ refused_text number item
unfolding sheet_text
sheet_refused s points number item e = rw (e, sheet_text)

-- an accepted sheet is a line for each point
pub sheet_passed : (s : Sheet) (points : List ℤ) → judged (table_refusals s) ≡ passed → sheet_text s points ≡ answers_text s points (length points / 2)
unfolding sheet_text
sheet_passed s points e = rw (e, sheet_text)

-- the line of a refusal is short
pub refused_short : (number item : ℕ) → number < 4294967296 → item < 18446744073709551616 → length (refused_text number item) ≤ 60
refused_short number item n i =
    omega (arith, refused_long number item, decimal_short number 9 (omega arith), decimal_short item 19 (omega arith))

module _ (page : List ℕ) where
  -- a page that is too long
  pub placed_long : max_page < length page → placed_text page ≡ refused_text 34 0
  unfolding placed_text
  placed_long h = rw (lt-ltb max_page (length page) h, placed_text)

  -- a page whose head counts more than the program holds
  pub placed_beyond : length page ≤ max_page → holds (head_beyond page) ≡ true → placed_text page ≡ refused_text 1 0
  unfolding placed_text
  placed_beyond h b = rw (le-ltb max_page (length page) h, placed_text) (rw b)

  -- a good page that the program holds has no more of anything than fits
  pub held_counts : (count : ℕ) → GoodPage page count → holds (head_beyond page) ≡ false
      → Means (counts_within_under program_limits (head_vertices page) (head_edges page) (head_zones page))
  held_counts count g b =
      let first = g.0 0 (omega arith) in
      ⊎_elim (λ m. m) (λ f. absurd (denies (head_beyond page) b (first.0, (first.1.0, (first.1.1.0, f))))) (decided (counts_within_under program_limits (head_vertices page) (head_edges page) (head_zones page)))

  module _ (held_head : holds (head_beyond page) ≡ false) where
    -- a refused page is its refusal's line
    pub placed_refused : (number line : ℕ) → length page ≤ max_page → judged_page page ≡ refused_page number line → placed_text page ≡ refused_text number line
    unfolding placed_text
    placed_refused number line h e = rw (le-ltb max_page (length page) h, placed_text) (rw held_head (rw e))

    -- a good page is its sheet with its points
    pub placed_good : (count : ℕ) → length page ≤ max_page → judged_page page ≡ Ok count → placed_text page ≡ sheet_text (page_sheet page) (point_words page count)
    unfolding placed_text
    placed_good count h e = rw (le-ltb max_page (length page) h, placed_text) (rw held_head (rw e))

  -- a lent text with room
  pub places : (text : List ℕ) → max_text ≤ length text → place_page page text ≡ record { written = Ok (length (placed_text page)); text = put (placed_text page) text }
  unfolding place_page
  places text h = rw (le-leb max_text (length text) h, place_page)

  -- a lent text without
  pub places_short : (text : List ℕ) → length text < max_text → place_page page text ≡ record { written = refused 33 0; text = text }
  unfolding place_page
  places_short text h = rw (lt-leb max_text (length text) h, place_page)

  -- what is written is a part of the text
  pub printed_counts : (text : List ℕ) (count : ℕ) → (place_page page text).written ≡ Ok count → IsPrefixLen count (place_page page text).text
  printed_counts text count e = ⊎_elim with_room (λ short. absurd (without short)) (decided (is_at_most max_text (length text)))
    where
      with_room : max_text ≤ length text → IsPrefixLen count (place_page page text).text
      with_room h =
          let so = places text h in
          let same : ◌≡◌ {A = Written} (Ok (length (placed_text page))) (Ok count) = sym (ap (λ r. r.written) so) ∙ e in
          let n : length (placed_text page) ≡ count = cc in
          let long : count ≤ length (place_page page text).text = omega (arith, n, ap length (ap (λ r. r.text) so), length-append (placed_text page) (drop (length (placed_text page)) text)) in
          (long, sym (length-take-le count (place_page page text).text long))

      without : (max_text ≤ length text → ⊥) → ⊥
      without short =
          let so : ◌≡◌ {A = Written} (refused 33 0) (Ok count) = sym (ap (λ r. r.written) (places_short text (omega (arith, short)))) ∙ e in
          false≢true cc
