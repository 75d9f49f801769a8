-- The zones that steps up from a zone lead to, as far as the steps are taken.
use mathlib.Core.Path.{◌≡◌, refl, sym, ap, subst}
use mathlib.Core.List.{List, []}
use mathlib.Core.Logic.{⊎_elim}
use Prim.Native.Nat.{ℕ, zero, suc, ◌+◌, ◌/◌, ◌<◌, ◌≤◌}
use native.Mathlib.Nat.{le_refl}
use native.Mathlib.Numerals.{add-one}
use native.Mathlib.Omega.{arith}
use lib.ListN.{length, get_or}
use Rattle.subdivision.specs.Formula.{Means}
use Rattle.subdivision.specs.Sheet.{Sheet, edge_above, edge_count, above_of, below_of}
use Rattle.subdivision.specs.ZoneLine.{leads}
use Rattle.line.specs.Grouped.{Grouped}
use Rattle.line.specs.Waiting.{zones_of, below_key}
use Rattle.theory.proofs.Groups.{group}
use Rattle.theory.proofs.Reached.{Reached, Fits, with_above, run_of, run_over, reached_first, reached_next, fits_none, fits_with}
use Rattle.circles.specs.Named.{NamedAbove}

module _ (edges : List ℕ) (zones : ℕ) where
  abbrev sheet : Sheet
  sheet = zones_of edges zones

  -- the group of a zone is its run
  pub group_is_run : (order begin : List ℕ) (zone : ℕ) → Grouped edges order begin zones → group (below_key edges) order zone ≡ run_of sheet zone
  group_is_run order begin zone g = ap (λ (l : List ℕ). group (below_key edges) l zone) g.0

  module _ (named : NamedAbove edges zones) where
    -- the edges of a run lead to zones that exist
    pub run_named : (zone : ℕ) (run : List ℕ) → run ≡ run_of sheet zone → (j : ℕ) → j < length run → edge_above edges (get_or run j 0) < zones
    run_named zone run e j h = named (get_or run j 0) (inside j h)
      where
        inside : (j : ℕ) → j < length run → get_or run j 0 < length edges / 4
        inside = subst (λ (l : List ℕ). (j : ℕ) → j < length l → get_or l j 0 < length edges / 4) (sym e) (λ j h. ((run_over sheet zone).own j h).0)

    -- a list of zones, each once, stays one with the first so many zones above the edges of a run
    fits_run : (zone : ℕ) (l : List ℕ) → Fits sheet l → (k : ℕ) → k ≤ length (run_of sheet zone) → Fits sheet (with_above edges (run_of sheet zone) l k)
    fits_run zone l f zero h = f
    fits_run zone l f (suc k) h =
        fits_with sheet (with_above edges (run_of sheet zone) l k) (edge_above edges (get_or (run_of sheet zone) k 0)) (run_named zone (run_of sheet zone) refl k h) (fits_run zone l f k (omega arith))

    -- steps from a zone that exists lead to one
    leads_named : (k a b : ℕ) → a < zones → Means (leads sheet k a b) → b < zones
    leads_named zero a b h m = rw m at h
    leads_named (suc k) a b h m =
        ⊎_elim (λ (e : a ≡ b). rw e at h) (λ (t : (e : ℕ) × (e < edge_count sheet) × ((below_of sheet e ≡ a) × Means (leads sheet k (above_of sheet e) b))). leads_named k (above_of sheet t.0) b (named t.0 t.1) t.2.1) m

    module _ (zone : ℕ) where
      -- the zones of a list are reached from the zone, the steps of those before the head are taken, and each stands there once
      pub record Walked (l : List ℕ) (head : ℕ) : Type 0 where
        pub reached : Reached sheet zone l head
        pub fits : Fits sheet l

      -- they are zones that exist
      pub walked_named : (l : List ℕ) (head i : ℕ) → Walked l head → i < length l → get_or l i 0 < zones
      walked_named l head i w h = go (w.reached.steps i h)
        where
          go : (e : ℕ) × (e < edge_count sheet) × ((below_of sheet e ≡ zone) × Means (leads sheet i (above_of sheet e) (get_or l i 0))) → get_or l i 0 < zones
          go (e, b, (q, m)) = leads_named i (above_of sheet e) (get_or l i 0) (named e b) m

      -- the steps up from the zone are taken
      pub walked_first : (l : List ℕ) → l ≡ with_above edges (run_of sheet zone) [] (length (run_of sheet zone)) → Walked l 0
      walked_first l e =
          subst (λ (m : List ℕ). Walked m 0) (sym e)
          (record { reached = reached_first sheet zone (run_of sheet zone) (run_over sheet zone); fits = fits_run zone [] (fits_none sheet) (length (run_of sheet zone)) (le_refl (length (run_of sheet zone))) })

      -- the steps of the zone at the head are taken
      pub walked_next : (l : List ℕ) (head next : ℕ) → Walked l head → head < length l → get_or l head 0 ≡ next → (more : List ℕ)
          → more ≡ with_above edges (run_of sheet next) l (length (run_of sheet next)) → Walked more (head + 1)
      walked_next l head next w h at more e =
          rw (add-one head) (subst (λ (m : List ℕ). Walked m (suc head)) (sym e)
          (record { reached = reached_next sheet zone l head w.reached h (run_of sheet next) (rw at (run_over sheet next)); fits = fits_run next l w.fits (length (run_of sheet next)) (le_refl (length (run_of sheet next))) }))
