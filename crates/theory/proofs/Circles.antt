-- Circles of zones: the line used leaves unplaced exactly the zones with a circle at them or below them, so where it leaves one some zone is
-- on a circle, and refusal 13 names the lowest that is.
use mathlib.Core.Path.{◌≡◌, refl, sym, ap, ◌∙◌}
use mathlib.Core.Bool.{Bool, true, false, not}
use mathlib.Core.List.{List, [], ◌∷◌, ◌++◌}
use mathlib.Core.Logic.{◌⊎◌, inl, inr, ⊎_elim, ◌↔◌}
use Prim.Native.Nat.{ℕ, zero, suc, ◌+◌, ◌-◌, ◌/◌, ◌<◌, ◌≤◌}
use native.Mathlib.Nat.{le_refl, lt_irrefl, ne_of_lt, not-suc-le-zero, le_of_suc-le-suc, suc-add, zero-add}
use native.Mathlib.Omega.{arith}
use lib.Dec.{ltb}
use lib.IntN.{ℤ, pos}
use lib.ListN.{length}
use borrow.Author.Tests.{ltb-false, not-true}
use Rattle.std.specs.Prelude.{Ok, Err}
use Rattle.subdivision.specs.Results.{Verdict, Reply, Search, passed, refused, reply_of, examined_of, probes_of}
use Rattle.subdivision.specs.Formula.{Formula, is_equal, both, either, implies, not_so, every_below, some_below, holds, Means}
use Rattle.subdivision.specs.Lowest.{lowest}
use Rattle.subdivision.specs.Sheet.{Sheet, sheet_of, edge_above, edge_below, edge_count, zone_count, above_of, below_of}
use Rattle.subdivision.specs.ZoneLine.{position, is_in, is_ready, next_zone, line_to, zone_line, rule7, leads, on_circle, above_circle}
use Rattle.subdivision.specs.Refusals.{names, circle_refusal, judged}
use Rattle.subdivision.specs.Earlier.{earlier_circle_refusal}
use Rattle.theory.proofs.Decide.{not_both, true_or_false, means, held, denies, fails, broken_item, broken_implies}
use Rattle.theory.proofs.Lowest.{lowest_before, lowest_passes, lowest_none, lowest_same}
use Rattle.theory.proofs.Position.{length_snoc}
use Rattle.theory.proofs.Counting.{pigeonhole}
use Rattle.theory.proofs.Judgement.{lowest_all_means}
use Rattle.theory.proofs.ZoneLine.{part_to, full_places, places_full}

module _ (s : Sheet) where
  -- steps that are few enough are few enough for a higher bound
  pub leads_more : (j k a b : ℕ) → j ≤ k → Means (leads s j a b) → Means (leads s k a b)
  leads_more zero zero a b h m = m
  leads_more zero (suc k) a b h m = inl m
  leads_more (suc j) zero a b h m = absurd (not-suc-le-zero h)
  leads_more (suc j) (suc k) a b h m =
      ⊎_elim inl (λ t. inr (t.0, t.1, (t.2.0, leads_more j k (above_of s t.0) b (le_of_suc-le-suc h) t.2.1))) m

  -- a step more, from where the steps lead
  pub leads_onward : (k a b e : ℕ) → e < edge_count s → below_of s e ≡ b → Means (leads s k a b) → Means (leads s (suc k) a (above_of s e))
  leads_onward zero a b e h i m = inr (e, h, (i ∙ sym m, refl))
  leads_onward (suc k) a b e h i m =
      ⊎_elim (λ (q : a ≡ b). inr (e, h, (i ∙ sym q, inl refl))) (λ t. inr (t.0, t.1, (t.2.0, leads_onward k (above_of s t.0) b e h i t.2.1))) m

  -- ---- a placed zone has no circle at it or below it

  -- a zone from which steps lead up to a placed zone stands no later in the line
  leads_placed : (k a b : ℕ) → position b (zone_line s) < length (zone_line s) → Means (leads s k a b) → position a (zone_line s) ≤ position b (zone_line s)
  unfolding zone_line
  leads_placed zero a b h m = rw m (le_refl (position b (zone_line s)))
  leads_placed (suc k) a b h m =
      ⊎_elim (λ (i : a ≡ b). rw i (le_refl (position b (zone_line s)))) (λ t. up t (leads_placed k (above_of s t.0) b h t.2.1)) m
    where
      up : (t : (e : ℕ) × (e < edge_count s) × ((below_of s e ≡ a) × Means (leads s k (above_of s e) b)))
          → position (above_of s t.0) (zone_line s) ≤ position b (zone_line s) → position a (zone_line s) ≤ position b (zone_line s)
      up (e, l, (i, m)) r =
          let down : position (below_of s e) (zone_line s) < position (above_of s e) (zone_line s) = (part_to s (zone_count s)).rising e l (omega arith) in
          let under : position (below_of s e) (zone_line s) ≤ position b (zone_line s) = omega arith in
          rw i at under

  -- a placed zone is on no circle
  placed_no_circle : (c : ℕ) → position c (zone_line s) < length (zone_line s) → Means (on_circle s c) → ⊥
  unfolding zone_line
  placed_no_circle c h (e, l, (i, m)) =
      let round : position (above_of s e) (zone_line s) ≤ position c (zone_line s) = leads_placed (zone_count s) (above_of s e) c h m in
      let up : position (below_of s e) (zone_line s) < position (above_of s e) (zone_line s) = (part_to s (zone_count s)).rising e l (omega arith) in
      let here : position (below_of s e) (zone_line s) ≡ position c (zone_line s) = ap (λ (z : ℕ). position z (zone_line s)) i in
      lt_irrefl (position c (zone_line s)) (omega arith)

  -- a placed zone has no circle at it or below it
  placed_clear : (z : ℕ) → position z (zone_line s) < length (zone_line s) → Means (above_circle s z) → ⊥
  placed_clear z h (c, b, (o, m)) = placed_no_circle c (omega (arith, leads_placed (zone_count s) c z h m)) o

  -- ---- where the line stops, a zone that is left has a circle at it or below it

  -- after each turn the line has grown by a place, or no zone is ready any more
  grown_or_stuck : (p : ℕ) → (length (line_to s p) ≡ p) ⊎ (ltb (next_zone s (line_to s p)) (zone_count s) ≡ false)
  grown_or_stuck zero = inl refl
  grown_or_stuck (suc p) = turn (ltb (next_zone s l) (zone_count s)) refl (grown_or_stuck p)
    where
      l : List ℕ
      l = line_to s p

      longer : Bool → List ℕ
      longer b = elim b [ true ↦ l ++ (next_zone s l ∷ []) | false ↦ l ]

      turn : (b : Bool) → ltb (next_zone s l) (zone_count s) ≡ b → (length l ≡ p) ⊎ (ltb (next_zone s l) (zone_count s) ≡ false)
          → (length (longer b) ≡ suc p) ⊎ (ltb (next_zone s (longer b)) (zone_count s) ≡ false)
      turn true e g = inl (length_snoc (next_zone s l) l ∙ ap suc (⊎_elim (λ i. i) (λ i. absurd (not_both e i)) g))
      turn false e g = inr e

  -- no zone is ready once the line is whole
  none_ready : (z : ℕ) → z < zone_count s → Means (is_ready s (zone_line s) z) → ⊥
  unfolding next_zone zone_line
  none_ready z h r = ⊎_elim (λ full. r.0 (full_places s full z h)) stuck (grown_or_stuck (zone_count s))
    where
      ready : ℕ → Bool
      ready y = holds (is_ready s (zone_line s) y)

      stuck : ltb (next_zone s (zone_line s)) (zone_count s) ≡ false → ⊥
      stuck e =
          let past : zone_count s ≤ lowest ready (zone_count s) = ltb-false (next_zone s (zone_line s)) (zone_count s) e in
          denies (is_ready s (zone_line s) z) (lowest_before ready (zone_count s) z (omega arith)) r

  -- a zone that the line leaves unplaced
  record Left : Type 0 where
    zone : ℕ
    within : zone < zone_count s
    left : position zone (zone_line s) < length (zone_line s) → ⊥

  -- the line used has every place filled exactly when no zone is left
  pub line_full : (length (zone_line s) ≡ zone_count s) ↔ (lowest (λ z. not (holds (is_in z (zone_line s)))) (zone_count s) ≡ zone_count s)
  line_full = (fills, filled)
    where
      fills : length (zone_line s) ≡ zone_count s → lowest (λ z. not (holds (is_in z (zone_line s)))) (zone_count s) ≡ zone_count s
      fills full =
          lowest_none (λ z. not (holds (is_in z (zone_line s)))) (zone_count s) (λ z h. ap not (held (is_in z (zone_line s)) (full_places s full z h)))

      filled : lowest (λ z. not (holds (is_in z (zone_line s)))) (zone_count s) ≡ zone_count s → length (zone_line s) ≡ zone_count s
      filled e = places_full s (lowest_all_means (zone_count s) (λ z. is_in z (zone_line s)) e)

  -- refusal 13 names the lowest zone on a circle
  pub circle_named : lowest (λ z. holds (on_circle s z)) (zone_count s) ≡ names (circle_refusal s)
  circle_named = lowest_same (λ z. holds (on_circle s z)) (λ z. not (holds (not_so (on_circle s z)))) (zone_count s) (λ z h. twice (holds (on_circle s z)))
    where
      twice : (b : Bool) → b ≡ not (not b)
      twice true = refl
      twice false = refl

  module _ (named : (e : ℕ) → e < edge_count s → (above_of s e < zone_count s) × (below_of s e < zone_count s)) where
    -- an edge under a zone that is left, with another such zone below it
    edge_under : (z : Left) → (e : ℕ) × (e < edge_count s) × ((above_of s e ≡ z.zone) × (position (below_of s e) (zone_line s) < length (zone_line s) → ⊥))
    edge_under z =
        ⊎_elim
        (λ e. absurd (none_ready z.zone z.within (z.left, means (every_below (edge_count s) clause) e)))
        (λ e. under (broken_item (edge_count s) clause e))
        (true_or_false (holds (every_below (edge_count s) clause)))
      where
        clause : ℕ → Formula
        clause e = implies (is_equal (above_of s e) z.zone) (is_in (below_of s e) (zone_line s))

        under : (e : ℕ) × (e < edge_count s) × (Means (clause e) → ⊥)
            → (e : ℕ) × (e < edge_count s) × ((above_of s e ≡ z.zone) × (position (below_of s e) (zone_line s) < length (zone_line s) → ⊥))
        under (e, h, f) = (e, h, broken_implies (is_equal (above_of s e) z.zone) (is_in (below_of s e) (zone_line s)) f)

    -- the zone below that edge
    abbrev lower : Left → Left
    lower z =
        record { zone = below_of s (edge_under z).0; within = (named (edge_under z).0 (edge_under z).1).1; left = (edge_under z).2.1 }

    -- so many such steps down
    abbrev down : ℕ → Left → Left
    down zero z = z
    down (suc k) z = lower (down k z)

    down_more : (d i : ℕ) (z : Left) → down (d + i) z ≡ down d (down i z)
    down_more zero i z = rw zero-add
    down_more (suc d) i z = rw suc-add (ap lower (down_more d i z))

    -- as many steps up lead back
    down_leads : (k : ℕ) (z : Left) → Means (leads s k (down k z).zone z.zone)
    down_leads zero z = refl
    down_leads (suc k) z =
        let e = edge_under (down k z) in
        inr (e.0, e.1, (refl, rw e.2.0 (down_leads k z)))

    -- a zone that is met again on the way down is on a circle
    met_again : (d : ℕ) (z : Left) → d ≤ zone_count s → (down (suc d) z).zone ≡ z.zone → Means (on_circle s z.zone)
    met_again d z h i =
        let e = edge_under (down d z) in
        (e.0, e.1, (i, rw e.2.0 (leads_more d (zone_count s) (down d z).zone z.zone h (down_leads d z))))

    -- a zone that is left has a circle at it or below it
    left_circle : (z : Left) → Means (above_circle s z.zone)
    left_circle z = round (pigeonhole (zone_count s) (λ k. (down k z).zone) (λ k h. (down k z).within))
      where
        round : (j : ℕ) × (j < suc (zone_count s)) × ((i : ℕ) × (i < j) × ((down i z).zone ≡ (down j z).zone)) → Means (above_circle s z.zone)
        round (j, h, (i, l, e)) =
            let c = down i z in
            let far : suc (j - suc i) + i ≡ j = omega arith in
            let again : (down (suc (j - suc i)) c).zone ≡ c.zone =
            ap (λ (y : Left). y.zone) (sym (down_more (suc (j - suc i)) i z) ∙ ap (λ (k : ℕ). down k z) far) ∙ sym e in
            (c.zone, c.within, (met_again (j - suc i) c (omega arith) again, leads_more i (zone_count s) c.zone z.zone (omega arith) (down_leads i z)))

    -- the zones that the line leaves unplaced are those with a circle at them or below them
    pub left_above_circle : (z : ℕ) → z < zone_count s → holds (not_so (above_circle s z)) ≡ holds (is_in z (zone_line s))
    left_above_circle z h =
        ⊎_elim
        (λ e. held (not_so (above_circle s z)) (placed_clear z (means (is_in z (zone_line s)) e)) ∙ sym e)
        (λ e. fails (not_so (above_circle s z)) (λ f. f (left_circle (record { zone = z; within = h; left = denies (is_in z (zone_line s)) e }))) ∙ sym e)
        (true_or_false (holds (is_in z (zone_line s))))

    -- refusal 13 named the lowest zone that the line leaves unplaced, before P4
    pub earlier_named : lowest (λ z. not (holds (is_in z (zone_line s)))) (zone_count s) ≡ names (earlier_circle_refusal s)
    earlier_named =
        lowest_same (λ z. not (holds (is_in z (zone_line s)))) (λ z. not (holds (not_so (above_circle s z)))) (zone_count s)
        (λ z h. ap not (sym (left_above_circle z h)))

    -- where the line leaves a zone, some zone is on a circle
    pub some_on_circle : lowest (λ z. not (holds (is_in z (zone_line s)))) (zone_count s) < zone_count s → (c : ℕ) × (c < zone_count s) × Means (on_circle s c)
    some_on_circle h = circle (left_circle (record { zone = z; within = h; left = left }))
      where
        z : ℕ
        z = lowest (λ z. not (holds (is_in z (zone_line s)))) (zone_count s)

        left : position z (zone_line s) < length (zone_line s) → ⊥
        left = denies (is_in z (zone_line s)) (not-true (holds (is_in z (zone_line s))) (lowest_passes (λ z. not (holds (is_in z (zone_line s)))) (zone_count s) h))

        circle : Means (above_circle s z) → (c : ℕ) × (c < zone_count s) × Means (on_circle s c)
        circle (c, b, (o, m)) = (c, b, o)

    -- refusal 13 is passed where the line leaves no zone
    pub judged_circle_kept : lowest (λ z. not (holds (is_in z (zone_line s)))) (zone_count s) ≡ zone_count s → judged (circle_refusal s ∷ []) ≡ passed
    judged_circle_kept e = rw (held (rule7 s) (line_full.1 e), judged)

    -- refusal 13 is given where the line leaves a zone, and names the lowest zone on a circle
    pub judged_circle_broken : lowest (λ z. not (holds (is_in z (zone_line s)))) (zone_count s) < zone_count s
        → judged (circle_refusal s ∷ []) ≡ refused 13 (lowest (λ z. holds (on_circle s z)) (zone_count s))
    judged_circle_broken h =
        rw (fails (rule7 s) (λ full. ne_of_lt h (line_full.0 full)), judged) (ap (refused 13) (sym circle_named))

module _ (west east : ℤ) (vertices : List ℤ) (edges : List ℕ) (zones : ℕ) where
  leads_of_edges : (k a b : ℕ) → leads (sheet_of west east vertices edges zones) k a b ≡ leads (sheet_of (pos 0) (pos 0) [] edges zones) k a b
  leads_of_edges zero a b = refl
  leads_of_edges (suc k) a b =
      λ i. either (is_equal a b) (some_below (length edges / 4) (λ e. both (is_equal (edge_below edges e) a) (leads_of_edges k (edge_above edges e) b i)))

  -- which zones are on a circle follows from the edges and the number of zones alone
  pub circle_of_edges : (c : ℕ) → on_circle (sheet_of west east vertices edges zones) c ≡ on_circle (sheet_of (pos 0) (pos 0) [] edges zones) c
  circle_of_edges c = λ i. some_below (length edges / 4) (λ e. both (is_equal (edge_below edges e) c) (leads_of_edges zones (edge_above edges e) c i))
