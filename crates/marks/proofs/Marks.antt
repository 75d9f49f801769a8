-- Marks for what the edges name: how a mark is set, and what the marks tell of a vertex and of a zone.
use mathlib.Core.Path.{◌≡◌, refl, sym, ap, ◌∙◌}
use mathlib.Core.Bool.{Bool, true, false, not}
use mathlib.Core.List.{List}
use mathlib.Core.Logic.{inl, inr}
use Prim.Native.Nat.{ℕ, ◌+◌, ◌*◌, ◌/◌, ◌<◌, ◌≤◌}
use native.Mathlib.Nat.{add-zero}
use native.Mathlib.Numerals.{add-one}
use native.Mathlib.Omega.{arith}
use lib.Dec.{eqb}
use lib.IntN.{ℤ, pos}
use lib.ListN.{length, get_or, set, replicate, length-set, length-replicate, get_or-replicate}
use lib.Seq.{ext_get_or, get_or-set_same, get_or-set_other}
use borrow.Author.Tests.{eqb-true, eqb-false}
use Rattle.subdivision.specs.Formula.{Formula, holds, Means}
use Rattle.std.specs.Prelude.{None}
use Rattle.subdivision.specs.Lowest.{found, first}
use Rattle.subdivision.specs.Sheet.{sheet_of, shifted, vertex_x}
use Rattle.subdivision.specs.Rules.{vertex_regular, zone_named, empty_sheet}
use Rattle.theory.proofs.Decide.{means, held, denies, fails}
use Rattle.theory.proofs.Lists.{length_tab, get_d_tab}
use Rattle.theory.proofs.Lowest.{lowest_same, first_nowhere}
use Rattle.marks.specs.Marks.{named_at, marked}
use Rattle.marks.specs.Regular.{regular}

module _ (edges : List ℕ) (at : ℕ) where
  pub length_marked : (m : ℕ) (marks : List Bool) → length (marked edges at m marks) ≡ length marks
  unfolding marked
  length_marked m marks = length_tab _ (length marks)

  -- a mark is set where an edge names its number, and otherwise as it was
  pub mark_reads : (m : ℕ) (marks : List Bool) (v : ℕ) → v < length marks
      → get_or (marked edges at m marks) v false ≡ elim (holds (named_at edges at m v)) [ true ↦ true | false ↦ get_or marks v false ]
  unfolding marked
  mark_reads m marks v h = get_d_tab _ (length marks) v false h

  pub marked_by_none : (marks : List Bool) → marked edges at 0 marks ≡ marks
  marked_by_none marks =
      ext_get_or false (marked edges at 0 marks) marks (length_marked 0 marks) (λ v h. mark_reads 0 marks v (rw (length_marked 0 marks) at h))

  -- one edge more sets one mark more
  pub marked_by_one_more : (i : ℕ) (marks : List Bool)
      → marked edges at (i + 1) marks ≡ set (marked edges at i marks) (get_or edges (4 * i + at) 0) true
  marked_by_one_more i marks =
      ext_get_or false (marked edges at (i + 1) marks) (set (marked edges at i marks) named true)
      (length_marked (i + 1) marks ∙ sym (length-set (marked edges at i marks) named true ∙ length_marked i marks))
      (λ v h. one v (rw (length_marked (i + 1) marks) at h))
    where
      named : ℕ
      named = get_or edges (4 * i + at) 0

      one : (v : ℕ) → v < length marks → get_or (marked edges at (i + 1) marks) v false ≡ get_or (set (marked edges at i marks) named true) v false
      one v h = mark_reads (i + 1) marks v h ∙ rw (add-one i) (go (eqb named v) refl)
        where
          go : (b : Bool) → eqb named v ≡ b
              → elim (elim (eqb named v) as (λ _. Bool) [ true ↦ true | false ↦ holds (named_at edges at i v) ]) as (λ _. Bool) [ true ↦ true | false ↦ get_or marks v false ]
              ≡ get_or (set (marked edges at i marks) named true) v false
          go true e =
              let same = eqb-true named v e in
              let inside : named < length (marked edges at i marks) = omega (arith, length_marked i marks) in
              rw (e, ← same) (sym (get_or-set_same (marked edges at i marks) named true false inside))
          go false e =
              let other : v ≡ named → ⊥ = λ d. eqb-false named v e (sym d) in
              rw e (sym (get_or-set_other (marked edges at i marks) named v true false other ∙ mark_reads i marks v h))

-- of marks set over none, v's is set exactly where an edge names it
pub mark_tells : (edges : List ℕ) (at m size v : ℕ) → v < size → get_or (marked edges at m (replicate size false)) v false ≡ holds (named_at edges at m v)
mark_tells edges at m size v h =
    mark_reads edges at m (replicate size false) v (rw (length-replicate size false) h) ∙ go (holds (named_at edges at m v))
  where
    go : (b : Bool) → elim b as (λ _. Bool) [ true ↦ true | false ↦ get_or (replicate size false) v false ] ≡ b
    go true = refl
    go false = get_or-replicate size v false false h

module _ (west east : ℤ) (vertices : List ℤ) (edges : List ℕ) (size : ℕ) where
  -- rule 3 at a vertex, by the marks of the eastern and of the western vertices
  regular_by_marks : (v : ℕ) → v < size
      → regular (shifted west) (shifted east) (vertex_x vertices v) (get_or (marked edges 1 (length edges / 4) (replicate size false)) v false) (get_or (marked edges 0 (length edges / 4) (replicate size false)) v false)
      ≡ holds (vertex_regular (sheet_of west east vertices edges 0) v)
  unfolding regular
  regular_by_marks v h =
      rw (mark_tells edges 1 (length edges / 4) size v h, mark_tells edges 0 (length edges / 4) size v h) (simp add-zero)

  -- the first vertex that breaks rule 3, by those marks
  pub irregular_by_marks : (n w e : ℕ) (western eastern : List Bool) → n ≤ size → w ≡ shifted west → e ≡ shifted east
      → western ≡ marked edges 1 (length edges / 4) (replicate size false) → eastern ≡ marked edges 0 (length edges / 4) (replicate size false)
      → first (λ v. not (regular w e (vertex_x vertices v) (get_or western v false) (get_or eastern v false))) n
      ≡ first (λ v. not (holds (vertex_regular (sheet_of west east vertices edges 0) v))) n
  irregular_by_marks n w e western eastern h p q r s =
      rw (p, q, r, s) (ap (found n) (lowest_same _ _ n (λ v k. ap not (regular_by_marks v (omega arith)))))

module _ (vertices : List ℤ) (edges : List ℕ) (zones size : ℕ) where
  -- rule 6 at a zone, by the marks of the zones above and below, where the sheet is not the one excepted
  named_by_marks : (z : ℕ) → z < size → (Means (empty_sheet (sheet_of (pos 0) (pos 0) vertices edges zones)) → ⊥)
      → get_or (marked edges 3 (length edges / 4) (marked edges 2 (length edges / 4) (replicate size false))) z false ≡ holds (zone_named (sheet_of (pos 0) (pos 0) vertices edges zones) z)
  named_by_marks z h full =
      mark_reads edges 3 m above z (rw (length_marked edges 2 m (replicate size false), length-replicate size false) h)
      ∙ ap (λ (b : Bool). elim (holds (named_at edges 3 m z)) [ true ↦ true | false ↦ b ]) (mark_tells edges 2 m size z h)
      ∙ go (holds (named_at edges 3 m z)) (holds (named_at edges 2 m z)) refl refl
    where
      m : ℕ
      m = length edges / 4

      above : List Bool
      above = marked edges 2 m (replicate size false)

      rule : Formula
      rule = zone_named (sheet_of (pos 0) (pos 0) vertices edges zones) z

      go : (a b : Bool) → holds (named_at edges 3 m z) ≡ a → holds (named_at edges 2 m z) ≡ b → elim a as (λ _. Bool) [ true ↦ true | false ↦ b ] ≡ holds rule
      go true b p q = let e = means (named_at edges 3 m z) p in sym (held rule (inl (e.0, e.1, inr e.2)))
      go false true p q = let e = means (named_at edges 2 m z) q in sym (held rule (inl (e.0, e.1, inl e.2)))
      go false false p q = sym (fails rule not_named)
        where
          not_named : Means rule → ⊥
          not_named (inr e) = full e
          not_named (inl (e, k, inl a)) = denies (named_at edges 2 m z) q (e, k, a)
          not_named (inl (e, k, inr b)) = denies (named_at edges 3 m z) p (e, k, b)

  -- the first zone that breaks rule 6, by those marks
  pub unnamed_by_marks : (above named : List Bool) → zones ≤ size → holds (empty_sheet (sheet_of (pos 0) (pos 0) vertices edges zones)) ≡ false
      → above ≡ marked edges 2 (length edges / 4) (replicate size false) → named ≡ marked edges 3 (length edges / 4) above
      → first (λ z. not (get_or named z false)) zones ≡ first (λ z. not (holds (zone_named (sheet_of (pos 0) (pos 0) vertices edges zones) z))) zones
  unnamed_by_marks above named h full p q =
      rw (q, p) (ap (found zones) (lowest_same _ _ zones (λ z k. ap not (named_by_marks z (omega arith) (denies (empty_sheet (sheet_of (pos 0) (pos 0) vertices edges zones)) full)))))

  -- on the sheet excepted no zone breaks rule 6
  pub all_named : holds (empty_sheet (sheet_of (pos 0) (pos 0) vertices edges zones)) ≡ true
      → None ≡ first (λ z. not (holds (zone_named (sheet_of (pos 0) (pos 0) vertices edges zones) z))) zones
  all_named e =
      first_nowhere _ zones (λ z h. ap not (held (zone_named (sheet_of (pos 0) (pos 0) vertices edges zones) z) (inr (means (empty_sheet (sheet_of (pos 0) (pos 0) vertices edges zones)) e))))
