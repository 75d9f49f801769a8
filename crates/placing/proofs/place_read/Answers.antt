-- A refused page is its refusal's line, and a good one is its sheet with its points: tables with room for any page are never short.
use mathlib.Core.Path.{◌≡◌, sym, ap, ◌∙◌}
use mathlib.Core.Bool.{false}
use mathlib.Core.List.{List}
use Prim.Native.Nat.{ℕ, ◌*◌, ◌≤◌}
use native.Mathlib.Omega.{arith}
use Rattle.std.proofs.Common.{rules}
use lib.IntN.{ℤ}
use lib.ListN.{length, take}
use Rattle.subdivision.specs.Limits.{program_limits}
use Rattle.subdivision.specs.Formula.{holds, Means}
use Rattle.subdivision.specs.Lists.{put}
use Rattle.subdivision.specs.Sheet.{sheet_of}
use Rattle.frames.specs.declared.Head.{Head}
use Rattle.std.specs.Prelude.{Ok}
use Rattle.frames.specs.Pages.{refused_page, room_kept, judged_page, read_page}
use Rattle.frames.specs.Placing.{max_page, refused_text, sheet_text, head_beyond, placed_text}
use Rattle.framing.proofs.Judging.{judged_good, read_sheet, refused_judged}
use Rattle.framing.proofs.PageTexts.{good_length}
use Rattle.framing.proofs.TablesRead.{tables_read}
use Rattle.placing.proofs.Printed.{refused_short, held_counts, placed_refused, placed_good}
use Rattle.placing.proofs.place_read.Goals as goal

-- the page has so few points
few : (page : List ℕ) (count : ℕ) → length page ≤ max_page → judged_page page ≡ Ok count → 2 * count ≤ 6894
few page count long j = omega (arith, good_length page count (judged_good page count j), long)

-- any page that the program holds has room in the tables
room : (page : List ℕ) (vertices edges points count : ℕ) → length page ≤ max_page → holds (head_beyond page) ≡ false
    → 2 * program_limits.vertices ≤ vertices → 4 * program_limits.edges ≤ edges → 6900 ≤ points
    → judged_page page ≡ Ok count → Means (room_kept page count vertices edges points)
room page vertices edges points count long held_head v e p j =
    let limits = held_counts page count (judged_good page count j) held_head in
    (omega (arith, limits.0.0, v), (omega (arith, limits.0.1, e), omega (arith, few page count long j, p)))

-- the line of a refused page
line : (page : List ℕ) (vertices : List ℤ) (edges : List ℕ) (points : List ℤ) (number k : ℕ) → length page ≤ max_page → holds (head_beyond page) ≡ false
    → 2 * program_limits.vertices ≤ length vertices → 4 * program_limits.edges ≤ length edges → 6900 ≤ length points
    → (read_page page vertices edges points).page ≡ refused_page number k → refused_text number k ≡ placed_text page
line page vertices edges points number k long held_head v e p answered =
    sym (placed_refused page held_head number k long (refused_judged page vertices edges points number k (λ count. room page (length vertices) (length edges) (length points) count long held_head v e p) answered))

pub put_refused-requires : goal.put_refused-requires
put_refused-requires c =
    let r = c.in-Err.refusal in
    omega (arith, refused_short r.number r.line (search rules) (search rules))

pub place_head-requires : goal.place_head-requires
place_head-requires c =
    let a = c.args in
    let n = c.in-Ok.read in
    let long = c.requires.page_len_bound.0 in
    let held_head = c.requires.vertices_in_bounds.1.1.1.1 in
    let r = read_sheet a.page.now a.vertices.now a.edges.now a.points.now n.head n.points (sym c.read_page.ensures.page ∙ c.in-Ok.is) in
    let limits = held_counts a.page.now n.points (judged_good a.page.now n.points r.0) held_head in
    record {
      vertices_in_bounds = (omega (arith, r.1.1.0, ap (λ (h : Head). h.vertices) r.1.0), (omega (arith, r.1.1.1.0, ap (λ (h : Head). h.edges) r.1.0), omega (arith, r.1.1.1.1)));
      edges_in_bounds = (omega (arith, limits.0.1, limits.1.1, ap (λ (h : Head). h.edges) r.1.0, ap (λ (h : Head). h.zones) r.1.0), (omega arith, omega (arith, few a.page.now n.points long r.0)));
    }

pub returns-in-Err : goal.returns-in-Err
returns-in-Err c =
    let a = c.args in
    let r = c.in-Err.refusal in
    let w = c.put_refused.ensures in
    let bounds = c.requires.vertices_in_bounds in
    let e = line a.page.now a.vertices.now a.edges.now a.points.now r.number r.line c.requires.page_len_bound.0 bounds.1.1.1.1 bounds.0 bounds.1.0 bounds.1.1.0 (sym c.read_page.ensures.page ∙ c.in-Err.is) in
    record {
      value = w.value ∙ ap length e;
      text_after = w.text_after ∙ ap (λ t. put t a.text.now) e;
    }

pub returns-in-Ok : goal.returns-in-Ok
returns-in-Ok c =
    let a = c.args in
    let n = c.in-Ok.read in
    let head = n.head in
    let e = sym c.read_page.ensures.page ∙ c.in-Ok.is in
    let r = read_sheet a.page.now a.vertices.now a.edges.now a.points.now head n.points e in
    let h = tables_read a.page.now a.vertices.now a.edges.now a.points.now head n.points e in
    let q = c.read_page.ensures in
    let text =
    (λ i. sheet_text (sheet_of head.west head.east (take (2 * head.vertices) (q.vertices i)) (take (4 * head.edges) (q.edges i)) head.zones) (take (2 * n.points) (q.points i)))
    ∙ (λ i. sheet_text (h.0 i) (h.1 i))
    ∙ sym (placed_good a.page.now c.requires.vertices_in_bounds.1.1.1.1 n.points c.requires.page_len_bound.0 r.0) in
    let w = c.place_head.ensures in
    record { value = w.value ∙ ap length text; text_after = w.text_after ∙ ap (λ t. put t a.text.now) text }
