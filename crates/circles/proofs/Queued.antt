-- The marks and the queue: nothing is queued at first, and what queuing a zone makes of them.
use mathlib.Core.Path.{◌≡◌, refl, sym, ap, ◌∙◌}
use mathlib.Core.Bool.{Bool, true, false}
use mathlib.Core.List.{List, [], ◌∷◌, ◌++◌}
use mathlib.Core.Logic.{⊎_elim}
use Prim.Native.Nat.{ℕ, ◌+◌, ◌<◌}
use native.Mathlib.Nat.{not-suc-le-zero, ne_of_lt}
use native.Mathlib.Numerals.{add-one}
use native.Mathlib.Omega.{arith}
use lib.Dec.{eqb}
use lib.ListN.{length, get_or, set, take, replicate, length-set, length-replicate, get_or-replicate}
use lib.Seq.{take-suc-set, get_or-set_same, get_or-set_other}
use borrow.Author.Tests.{eqb-true, eqb-false}
use Rattle.subdivision.specs.Formula.{holds}
use Rattle.subdivision.specs.ZoneLine.{is_in}
use Rattle.line.specs.Waiting.{zones_of}
use Rattle.theory.proofs.Decide.{true_or_false, below_suc, held, denies}
use Rattle.theory.proofs.Lists.{is_tab, get_d_tab}
use Rattle.theory.proofs.Position.{length_snoc, in_at_end, in_same}
use Rattle.theory.proofs.Reached.{with_zone, with_new, fits_none, fits_room, fits_with}
use Rattle.circles.specs.Looking.{mark_of, Looking}

-- a zone in the list has mark 1
mark_held : (l : List ℕ) (y : ℕ) → holds (is_in y l) ≡ true → mark_of l y ≡ 1
mark_held l y e = rw (e, mark_of)

-- with no mark set, nothing is queued
pub looking_none : (n : ℕ) → Looking (replicate n 0) (replicate n 0) 0
looking_none n =
    record { marked = is_tab (mark_of []) 0 zeros (length zeros) refl (λ i h. get_or-replicate n i 0 0 (rw length-replicate at h)); room = refl; long = refl; zones = λ i h. absurd (not-suc-le-zero h); fits = fits_none (zones_of [] (length zeros)) }
  where
    zeros : List ℕ
    zeros = replicate n 0

module _ (marks queue : List ℕ) (count zone : ℕ) (k : Looking marks queue count) (there : zone < length marks) where
  -- the zones queued so far
  abbrev so_far : List ℕ
  so_far = take count queue

  pub mark_is : get_or marks zone 0 ≡ mark_of so_far zone
  mark_is = ap (λ (l : List ℕ). get_or l zone 0) k.marked ∙ get_d_tab (mark_of so_far) (length marks) zone 0 there

  -- the mark tells whether the zone is queued
  pub mark_tells : eqb (get_or marks zone 0) 1 ≡ holds (is_in zone so_far)
  mark_tells = ap (λ (w : ℕ). eqb w 1) mark_is ∙ tells (holds (is_in zone so_far))
    where
      tells : (b : Bool) → eqb (elim b [ true ↦ 1 | false ↦ 0 ]) 1 ≡ b
      tells true = refl
      tells false = refl

  module _ (free : holds (is_in zone so_far) ≡ false) where
    -- a zone that is not queued finds a place
    pub zone_room : count < length queue
    zone_room = omega (arith, k.long, k.room, fits_room (zones_of [] (length marks)) so_far zone there free k.fits)

    longer : take (count + 1) (set queue count zone) ≡ so_far ++ (zone ∷ [])
    longer = rw (add-one count) (take-suc-set queue count zone zone_room)

    -- and is put at the end of those queued
    pub zone_queued : take (count + 1) (set queue count zone) ≡ with_zone so_far zone
    zone_queued = longer ∙ sym (with_new so_far zone free)

    pub zone_looking : Looking (set marks zone 1) (set queue count zone) (count + 1)
    zone_looking =
        record { marked = is_tab (mark_of (take (count + 1) (set queue count zone))) 0 (set marks zone 1) (length (set marks zone 1)) refl (λ i h. mark i (rw length-set at h)); room = length-set queue count zone ∙ k.room ∙ sym (length-set marks zone 1); long = omega (arith, ap length longer, length_snoc zone so_far, k.long); zones = λ i h. rw (length-set marks zone 1) (⊎_elim (last i) (old i) (below_suc (rw (add-one count) at h))); fits = rw (length-set marks zone 1, zone_queued) (fits_with (zones_of [] (length marks)) so_far zone there k.fits) }
      where
        last : (i : ℕ) → i ≡ count → get_or (set queue count zone) i 0 < length marks
        last i e = rw (e, get_or-set_same queue count zone 0 zone_room) there

        old : (i : ℕ) → i < count → get_or (set queue count zone) i 0 < length marks
        old i h = rw (get_or-set_other queue count i zone 0 (ne_of_lt h)) (k.zones i h)

        own : mark_of (take (count + 1) (set queue count zone)) zone ≡ 1
        own = ap (λ (l : List ℕ). mark_of l zone) longer ∙ mark_held (so_far ++ (zone ∷ [])) zone (held (is_in zone (so_far ++ (zone ∷ []))) (in_at_end zone so_far (denies (is_in zone so_far) free)))

        other : (i : ℕ) → i < length marks → (i ≡ zone → ⊥) → get_or marks i 0 ≡ mark_of (take (count + 1) (set queue count zone)) i
        other i h d =
            ap (λ (l : List ℕ). get_or l i 0) k.marked ∙ get_d_tab (mark_of so_far) (length marks) i 0 h
            ∙ sym (λ j. elim (in_same i zone so_far d j) [ true ↦ 1 | false ↦ 0 ]) ∙ ap (λ (l : List ℕ). mark_of l i) (sym longer)

        mark : (i : ℕ) → i < length marks → get_or (set marks zone 1) i 0 ≡ mark_of (take (count + 1) (set queue count zone)) i
        mark i h =
            ⊎_elim (λ t. same (eqb-true i zone t)) (λ f. get_or-set_other marks zone i 1 0 (eqb-false i zone f) ∙ other i h (eqb-false i zone f)) (true_or_false (eqb i zone))
          where
            same : i ≡ zone → get_or (set marks zone 1) i 0 ≡ mark_of (take (count + 1) (set queue count zone)) i
            same e = rw e (get_or-set_same marks zone 1 0 there ∙ sym own)
