-- Laws of the judgement of a page: which line decides, which refusal it is given, and that it is judged good exactly when it is.
use Rattle.std.specs.Prelude.{Result, Ok, Err}
use mathlib.Core.Path.{◌≡◌, refl, sym, ap, subst, ◌∙◌}
use mathlib.Core.Bool.{Bool, true, false, not}
use mathlib.Core.List.{List}
use mathlib.Core.Logic.{◌⊎◌, inl, inr, ⊎_elim, ◌↔◌}
use Prim.Native.Nat.{ℕ, zero, suc, ◌+◌, ◌-◌, ◌≤◌, zero-le}
use native.Mathlib.Nat.{le_refl, eq-or-lt_of_le}
use native.Mathlib.Omega.{arith}
use borrow.Author.Tests.{not-true, not-false}
use lib.IntN.{ℤ}
use lib.ListN.{length}
use Rattle.subdivision.specs.Formula.{holds, Means}
use Rattle.subdivision.specs.Lists.{put}
use Rattle.subdivision.specs.Refusals.{counts_within}
use Rattle.frames.specs.declared.Head.{Head}
use Rattle.frames.specs.declared.PageContents.{PageContents}
use Rattle.frames.specs.declared.PageRefused.{PageRefused}
use Rattle.frames.specs.Lines.{line_start}
use Rattle.frames.specs.Pages.{head_vertices, head_edges, head_zones, is_whole, is_well_made, is_in_order, keeps_limits, is_good, is_end, first_not_good, line_refusal, judged_page, GoodBefore, LineRefuses}
use Rattle.frames.specs.Pages.{refused_page, sheet_page, head_of, vertex_words, edge_words, point_words, room_kept, read_page, GoodPage}
use Rattle.theory.proofs.Decide.{below_suc, means, held, fails, denies, decided}
use Rattle.theory.proofs.Lowest.{is_lowest_lem, lowest_before, lowest_passes, lowest_le}
use Rattle.framing.proofs.LineEnds.{line_end_from}

-- a sheet is no refusal
pub sheet_not_refused : {head : Head} {count number line : ℕ} → sheet_page head count ≡ refused_page number line → ⊥
sheet_not_refused e = cc

-- refusals that are equal have the same number and the same line
pub same_refusal : {A : Type 0} {n k number line : ℕ} → refused_page {A = A} n k ≡ refused_page number line → (n ≡ number) × (k ≡ line)
same_refusal {n = n} {k = k} {number = number} {line = line} e =
    let same : ◌≡◌ {A = PageRefused} (record { number = n; line = k }) (record { number = number; line = line }) = cc in
    (ap (λ (r : PageRefused). r.number) same, ap (λ (r : PageRefused). r.line) same)

-- sheets that are equal have the same head and the same number of points
pub same_sheet : {h head : Head} {n count : ℕ} → sheet_page h n ≡ sheet_page head count → (h ≡ head) × (n ≡ count)
same_sheet {h} {head} {n} {count} e =
    let same : ◌≡◌ {A = PageContents} (record { head = h; points = n }) (record { head = head; points = count }) = cc in
    (ap (λ (p : PageContents). p.head) same, ap (λ (p : PageContents). p.points) same)

module _ (page : List ℕ) where
  -- good lines lie within the page, with a byte each at least
  pub lines_within : (k : ℕ) → GoodBefore page k → (k ≤ line_start page k) × (line_start page k ≤ length page)
  lines_within zero g = (le_refl 0, zero-le)
  lines_within (suc k) g =
      let before = lines_within k (λ j h. g j (omega arith)) in
      let whole = (g k (omega arith)).0 in
      (omega (arith, before.0, line_end_from page (line_start page k)), omega (arith, whole))

  -- where a whole line is, the page does not end
  pub whole_not_end : (k : ℕ) → Means (is_whole page k) → Means (is_end page k) → ⊥
  whole_not_end k w e = omega (arith, w, e.0, line_end_from page (line_start page k))

  -- ---- the refusal of a line

  -- the refusal from the tests that tell it
  refusal_of : (k : ℕ) {a b c : Bool} → holds (is_whole page k) ≡ a → holds (is_well_made page k) ≡ b → holds (is_in_order page k) ≡ c
      → line_refusal page k ≡ elim a [ false ↦ 32 | true ↦ elim b [ false ↦ 30 | true ↦ elim c [ false ↦ 31 | true ↦ 1 ] ] ]
  refusal_of k p q r = λ i. elim (p i) [ false ↦ 32 | true ↦ elim (q i) [ false ↦ 30 | true ↦ elim (r i) [ false ↦ 31 | true ↦ 1 ] ] ]

  -- this is the number of a line that is not good, where the page does not end
  abbrev pub Refused : ℕ → ℕ → Type 0
  Refused k number = (number ≡ line_refusal page k) × ((Means (is_good page k) → ⊥) × (Means (is_end page k) → ⊥))

  -- a line that is not there whole
  pub refused_32 : (k : ℕ) → (Means (is_whole page k) → ⊥) → (Means (is_end page k) → ⊥) → Refused k 32
  refused_32 k w e = (sym (refusal_of k (fails (is_whole page k) w) refl refl), ((λ g. w g.0), e))

  -- a whole line that is not well made
  pub refused_30 : (k : ℕ) → Means (is_whole page k) → (Means (is_well_made page k) → ⊥) → Refused k 30
  refused_30 k w f =
      (sym (refusal_of k (held (is_whole page k) w) (fails (is_well_made page k) f) refl), ((λ g. f g.1.0), whole_not_end k w))

  -- a well-made line whose kind is out of order
  pub refused_31 : (k : ℕ) → Means (is_whole page k) → Means (is_well_made page k) → (Means (is_in_order page k) → ⊥) → Refused k 31
  refused_31 k w f o =
      (sym (refusal_of k (held (is_whole page k) w) (held (is_well_made page k) f) (fails (is_in_order page k) o)), ((λ g. o g.1.1.0), whole_not_end k w))

  -- a head whose counts break the limits
  pub refused_1 : (k : ℕ) → Means (is_whole page k) → Means (is_well_made page k) → Means (is_in_order page k) → (Means (keeps_limits page k) → ⊥) → Refused k 1
  refused_1 k w f o l =
      (sym (refusal_of k (held (is_whole page k) w) (held (is_well_made page k) f) (held (is_in_order page k) o)), ((λ g. l g.1.1.1), whole_not_end k w))

  -- a line's refusal by the statements is its refusal by the tests
  pub line_refused : (number k : ℕ) → LineRefuses page number k → Refused k number
  line_refused number k (inl r) = rw r.0 (refused_32 k r.1.0 r.1.1)
  line_refused number k (inr (inl r)) = rw r.0 (refused_30 k r.1.0 r.1.1)
  line_refused number k (inr (inr (inl r))) = rw r.0 (refused_31 k r.1.0 r.1.1.0 r.1.1.1)
  line_refused number k (inr (inr (inr r))) = rw r.0 (refused_1 k r.1.0 r.1.1.0 r.1.1.1.0 r.1.1.1.1)

  -- and the other way round
  pub refused_line : (k : ℕ) → (Means (is_good page k) → ⊥) → (Means (is_end page k) → ⊥) → LineRefuses page (line_refusal page k) k
  refused_line k g e = go (decided (is_whole page k)) (decided (is_well_made page k)) (decided (is_in_order page k))
    where
      go : Means (is_whole page k) ⊎ (Means (is_whole page k) → ⊥) → Means (is_well_made page k) ⊎ (Means (is_well_made page k) → ⊥)
          → Means (is_in_order page k) ⊎ (Means (is_in_order page k) → ⊥) → LineRefuses page (line_refusal page k) k
      go (inr w) f o = inl (sym (refused_32 k w e).0, (w, e))
      go (inl w) (inr f) o = inr (inl (sym (refused_30 k w f).0, (w, f)))
      go (inl w) (inl f) (inr o) = inr (inr (inl (sym (refused_31 k w f o).0, (w, (f, o)))))
      go (inl w) (inl f) (inl o) =
          let l : Means (keeps_limits page k) → ⊥ = λ m. g (w, (f, (o, m))) in
          inr (inr (inr (sym (refused_1 k w f o l).0, (w, (f, (o, l))))))

  -- ---- the line that decides

  -- the first line that is not good
  pub first_is : (k : ℕ) → GoodBefore page k → (Means (is_good page k) → ⊥) → first_not_good page ≡ k
  first_is k g n =
      is_lowest_lem (record { within = omega (arith, (lines_within k g).0, (lines_within k g).1); before = λ j h. ap not (held (is_good page j) (g j h)); passes = λ h. ap not (fails (is_good page k) n) })

  -- every line before it is good
  pub first_before : GoodBefore page (first_not_good page)
  first_before j h = means (is_good page j) (not-false (holds (is_good page j)) (lowest_before (λ k. not (holds (is_good page k))) (length page) j h))

  -- it is not good
  pub first_not_good_lem : Means (is_good page (first_not_good page)) → ⊥
  first_not_good_lem m =
      ⊎_elim (λ (e : first_not_good page ≡ length page). omega (arith, past.0, past.1, e)) (λ l. denies (is_good page (first_not_good page)) (unnot (lowest_passes test (length page) l)) m)
      (eq-or-lt_of_le (lowest_le test (length page)))
    where
      test : ℕ → Bool
      test k = not (holds (is_good page k))

      unnot : {b : Bool} → not b ≡ true → b ≡ false
      unnot {b} e = not-true b e

      all : GoodBefore page (suc (first_not_good page))
      all j h = ⊎_elim (λ (e : j ≡ first_not_good page). rw e m) (first_before j) (below_suc h)

      past : (suc (first_not_good page) ≤ line_start page (suc (first_not_good page))) × (line_start page (suc (first_not_good page)) ≤ length page)
      past = lines_within (suc (first_not_good page)) all

  -- ---- the judgement

  -- the judgement, from whether the page ends at its first line that is not good
  judged_of : {b : Bool} → holds (is_end page (first_not_good page)) ≡ b
      → judged_page page ≡ elim b [ true ↦ Ok (first_not_good page - (1 + head_vertices page + head_edges page)) | false ↦ refused_page (line_refusal page (first_not_good page)) (first_not_good page) ]
  unfolding judged_page
  judged_of e = λ i. elim (e i) [ true ↦ Ok (first_not_good page - (1 + head_vertices page + head_edges page)) | false ↦ refused_page (line_refusal page (first_not_good page)) (first_not_good page) ]

  -- a page that ends at a line, with every line before it good
  pub judged_ends : (k : ℕ) → GoodBefore page k → (Means (is_good page k) → ⊥) → Means (is_end page k)
      → judged_page page ≡ Ok (k - (1 + head_vertices page + head_edges page))
  judged_ends k g n e =
      let f = first_is k g n in
      judged_of (ap (λ j. holds (is_end page j)) f ∙ held (is_end page k) e) ∙ ap (λ j. Ok (j - (1 + head_vertices page + head_edges page))) f

  -- a page that does not
  pub judged_refuses : (k : ℕ) → GoodBefore page k → (Means (is_good page k) → ⊥) → (Means (is_end page k) → ⊥)
      → judged_page page ≡ refused_page (line_refusal page k) k
  judged_refuses k g n e =
      let f = first_is k g n in
      judged_of (ap (λ j. holds (is_end page j)) f ∙ fails (is_end page k) e) ∙ ap (λ j. refused_page (line_refusal page j) j) f

  -- a page is refused exactly as its lines say
  pub judged_exactly : (number line : ℕ) → (judged_page page ≡ refused_page number line) ↔ (GoodBefore page line × LineRefuses page number line)
  judged_exactly number line = (there, back)
    where
      -- the first line that is not good, with its refusal
      found : Means (is_end page (first_not_good page)) ⊎ (Means (is_end page (first_not_good page)) → ⊥) → judged_page page ≡ refused_page number line
          → GoodBefore page line × LineRefuses page number line
      found (inl e) j = let never = sym (judged_ends (first_not_good page) first_before first_not_good_lem e) ∙ j in absurd cc
      found (inr e) j =
          let same = same_refusal {A = ℕ} (sym (judged_refuses (first_not_good page) first_before first_not_good_lem e) ∙ j) in
          (rw same.1 at first_before, rw same.1 at (rw same.0 at (refused_line (first_not_good page) first_not_good_lem e)))

      there : judged_page page ≡ refused_page number line → GoodBefore page line × LineRefuses page number line
      there = found (decided (is_end page (first_not_good page)))

      back : GoodBefore page line × LineRefuses page number line → judged_page page ≡ refused_page number line
      back p =
          let r = line_refused number line p.1 in
          judged_refuses line p.0 r.1.0 r.1.1 ∙ ap (λ n. refused_page n line) (sym r.0)

  -- ---- good pages

  -- a good page is judged good
  pub good_judged : (count : ℕ) → GoodPage page count → judged_page page ≡ Ok count
  good_judged count g =
      let k = 1 + head_vertices page + head_edges page + count in
      let same : k - (1 + head_vertices page + head_edges page) ≡ count = omega arith in
      judged_ends k g.0 (λ m. whole_not_end k m.0 g.1) g.1 ∙ ap Ok same

  -- a page that is judged good is good
  pub judged_good : (count : ℕ) → judged_page page ≡ Ok count → GoodPage page count
  judged_good count j = found (decided (is_end page (first_not_good page)))
    where
      found : Means (is_end page (first_not_good page)) ⊎ (Means (is_end page (first_not_good page)) → ⊥) → GoodPage page count
      found (inl e) =
          let same = sym (judged_ends (first_not_good page) first_before first_not_good_lem e) ∙ j in
          let counted : first_not_good page - (1 + head_vertices page + head_edges page) ≡ count = cc in
          let lines : first_not_good page ≡ 1 + head_vertices page + head_edges page + count = omega (arith, counted, e.1) in
          subst (λ k. GoodBefore page k × Means (is_end page k)) lines (first_before, e)
      found (inr e) = let never = sym j ∙ judged_refuses (first_not_good page) first_before first_not_good_lem e in absurd cc

  -- reading a page that is judged good into tables with room gives its head, its number of points, and its words
  pub read_good : (count : ℕ) (vertices : List ℤ) (edges : List ℕ) (points : List ℤ) → judged_page page ≡ Ok count
      → Means (room_kept page count (length vertices) (length edges) (length points))
      → read_page page vertices edges points
      ≡ record {
        page = sheet_page (head_of page) count;
        vertices = put (vertex_words page) vertices;
        edges = put (edge_words page) edges;
        points = put (point_words page count) points;
      }
  unfolding read_page
  read_good count vertices edges points e room =
      rw (e, held (room_kept page count (length vertices) (length edges) (length points)) room, read_page)

  -- reading a page that is judged refused gives that refusal, and leaves the tables
  pub read_refused : (number line : ℕ) (vertices : List ℤ) (edges : List ℕ) (points : List ℤ) → judged_page page ≡ refused_page number line
      → read_page page vertices edges points ≡ record { page = refused_page number line; vertices = vertices; edges = edges; points = points }
  unfolding read_page
  read_refused number line vertices edges points e = rw (e, read_page)

  -- reading a good page into a table that is short gives 33, and leaves the tables
  pub read_short : (count : ℕ) (vertices : List ℤ) (edges : List ℕ) (points : List ℤ) → judged_page page ≡ Ok count
      → (Means (room_kept page count (length vertices) (length edges) (length points)) → ⊥)
      → read_page page vertices edges points ≡ record { page = refused_page 33 0; vertices = vertices; edges = edges; points = points }
  unfolding read_page
  read_short count vertices edges points e short =
      rw (e, fails (room_kept page count (length vertices) (length edges) (length points)) short, read_page)

  -- an answer with a sheet is that of a good page into tables with room
  pub read_sheet : (vertices : List ℤ) (edges : List ℕ) (points : List ℤ) (head : Head) (count : ℕ) → (read_page page vertices edges points).page ≡ sheet_page head count
      → (judged_page page ≡ Ok count) × ((head_of page ≡ head) × Means (room_kept page count (length vertices) (length edges) (length points)))
  read_sheet vertices edges points head count e = go (judged_page page) refl
    where
      found : (n : ℕ) → judged_page page ≡ Ok n
          → Means (room_kept page n (length vertices) (length edges) (length points)) ⊎ (Means (room_kept page n (length vertices) (length edges) (length points)) → ⊥)
          → (judged_page page ≡ Ok count) × ((head_of page ≡ head) × Means (room_kept page count (length vertices) (length edges) (length points)))
      found n j (inl room) =
          let same = same_sheet (sym (ap (λ r. r.page) (read_good n vertices edges points j room)) ∙ e) in
          (j ∙ ap Ok same.1, (same.0, subst (λ k. Means (room_kept page k (length vertices) (length edges) (length points))) same.1 room))
      found n j (inr short) = absurd (sheet_not_refused (sym e ∙ ap (λ r. r.page) (read_short n vertices edges points j short)))

      go : (j : Result ℕ PageRefused) → judged_page page ≡ j
          → (judged_page page ≡ Ok count) × ((head_of page ≡ head) × Means (room_kept page count (length vertices) (length edges) (length points)))
      go (Ok n) j = found n j (decided (room_kept page n (length vertices) (length edges) (length points)))
      go (Err r) j = absurd (sheet_not_refused (sym e ∙ ap (λ r. r.page) (read_refused r.number r.line vertices edges points j)))

  -- into tables with room for the page, an answer with a refusal is the page's own
  pub refused_judged : (vertices : List ℤ) (edges : List ℕ) (points : List ℤ) (number line : ℕ)
      → ((count : ℕ) → judged_page page ≡ Ok count → Means (room_kept page count (length vertices) (length edges) (length points)))
      → (read_page page vertices edges points).page ≡ refused_page number line → judged_page page ≡ refused_page number line
  refused_judged vertices edges points number line room e = go (judged_page page) refl
    where
      go : (j : Result ℕ PageRefused) → judged_page page ≡ j → judged_page page ≡ refused_page number line
      go (Ok n) j = absurd (sheet_not_refused (sym (ap (λ r. r.page) (read_good n vertices edges points j (room n j))) ∙ e))
      go (Err r) j =
          let same = same_refusal {A = PageContents} (sym (ap (λ r. r.page) (read_refused r.number r.line vertices edges points j)) ∙ e) in
          j ∙ λ i. refused_page (same.0 i) (same.1 i)

  -- a good page keeps the limits
  pub good_limits : (count : ℕ) → GoodPage page count → Means (counts_within (head_vertices page) (head_edges page) (head_zones page))
  good_limits count g = (g.0 0 (omega arith)).1.1.1 refl
