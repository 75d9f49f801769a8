-- The zones that steps from below to above lead to from a zone, looked for in a list that grows at its end: once the steps of every zone
-- in the list are taken, the zone is on a circle exactly when it stands in the list itself.
use mathlib.Core.Path.{◌≡◌, refl, sym, ap, ◌∙◌}
use mathlib.Core.Bool.{true, false}
use mathlib.Core.List.{List, [], ◌∷◌, ◌++◌}
use mathlib.Core.Logic.{◌⊎◌, inl, inr, ⊎_elim}
use Prim.Native.Nat.{ℕ, zero, suc, ◌+◌, ◌<◌, ◌≤◌}
use native.Mathlib.Nat.{le_refl, not-suc-le-zero}
use native.Mathlib.Decide.{dec_le}
use native.Mathlib.Omega.{arith}
use lib.ListN.{length, get_or, get_or-append}
use lib.Seq.{get_or-append_seam}
use Rattle.subdivision.specs.Formula.{holds, Means}
use Rattle.subdivision.specs.Order.{in_order}
use Rattle.subdivision.specs.Sheet.{Sheet, edge_above, edge_count, zone_count, above_of, below_of}
use Rattle.subdivision.specs.ZoneLine.{position, is_in, leads, on_circle}
use Rattle.theory.proofs.Circles.{leads_more, leads_onward}
use Rattle.theory.proofs.Counting.{count_under}
use Rattle.theory.proofs.Decide.{true_or_false, below_suc, means, denies, computes}
use Rattle.theory.proofs.Groups.{pair_key, group, group_entry, group_holds}
use Rattle.theory.proofs.Order.{sorted_below}
use Rattle.theory.proofs.Position.{entry_at_place, length_snoc, in_longer, in_at_end}
use Rattle.theory.proofs.ZoneLine.{unplaced, part_empty, one_less}

-- the list with y at its end, unless it is there already
abbrev pub with_zone : List ℕ → ℕ → List ℕ
with_zone l y = elim (holds (is_in y l)) [ true ↦ l | false ↦ l ++ (y ∷ []) ]

-- the list with the zones above the first so many edges of a run, each unless it is there already
abbrev pub with_above : List ℕ → List ℕ → List ℕ → ℕ → List ℕ
with_above edges run l zero = l
with_above edges run l (suc k) = with_zone (with_above edges run l k) (edge_above edges (get_or run k 0))

-- a zone that is there already changes nothing
pub with_held : (l : List ℕ) (y : ℕ) → holds (is_in y l) ≡ true → with_zone l y ≡ l
with_held l y e = rw (e, with_zone)

-- another one is put at the end
pub with_new : (l : List ℕ) (y : ℕ) → holds (is_in y l) ≡ false → with_zone l y ≡ l ++ (y ∷ [])
with_new l y e = rw (e, with_zone)

-- the zone then stands in the list
in_with : (l : List ℕ) (y : ℕ) → Means (is_in y (with_zone l y))
in_with l y =
    ⊎_elim (λ e. rw (with_held l y e) (means (is_in y l) e)) (λ e. rw (with_new l y e) (in_at_end y l (denies (is_in y l) e))) (true_or_false (holds (is_in y l)))

-- ---- a list that has grown at its end

-- l has grown to m, by entries of which `New` holds
pub record Grown (New : ℕ → Type 0) (l m : List ℕ) : Type 0 where
  pub longer : length l ≤ length m
  pub kept : (i : ℕ) → i < length l → get_or m i 0 ≡ get_or l i 0
  pub still : (y : ℕ) → Means (is_in y l) → Means (is_in y m)
  pub new : (i : ℕ) → length l ≤ i → i < length m → New (get_or m i 0)

grown_not : (New : ℕ → Type 0) (l : List ℕ) → Grown New l l
grown_not New l = record { longer = le_refl (length l); kept = λ i h. refl; still = λ y h. h; new = λ i b h. absurd (omega arith) }

grown_with : (New : ℕ → Type 0) (l m : List ℕ) (y : ℕ) → Grown New l m → New y → Grown New l (with_zone m y)
grown_with New l m y g p = ⊎_elim (λ e. rw (with_held m y e) g) (λ e. rw (with_new m y e) more) (true_or_false (holds (is_in y m)))
  where
    more : Grown New l (m ++ (y ∷ []))
    more =
        record { longer = omega (arith, length_snoc y m, g.longer); kept = λ i h. get_or-append m (y ∷ []) 0 i (omega (arith, g.longer)) ∙ g.kept i h; still = λ z h. in_longer z y m (g.still z h); new = λ i b h. ⊎_elim last (old i b) (below_suc (rw length_snoc at h)) }
      where
        last : {i : ℕ} → i ≡ length m → New (get_or (m ++ (y ∷ [])) i 0)
        last e = rw (e, get_or-append_seam m y [] 0) p

        old : (i : ℕ) → length l ≤ i → i < length m → New (get_or (m ++ (y ∷ [])) i 0)
        old i b h = rw (get_or-append m (y ∷ []) 0 i h) (g.new i b h)

module _ (s : Sheet) where
  -- ---- as many zones are not in the list as it lacks of the number of zones

  -- each zone of the list stands there once
  abbrev pub Fits : List ℕ → Type 0
  Fits l = count_under (zone_count s) (unplaced s l) + length l ≡ zone_count s

  pub fits_none : Fits []
  fits_none = (part_empty s).rest

  pub fits_within : (l : List ℕ) → Fits l → length l ≤ zone_count s
  fits_within l f = omega (arith, f)

  -- a zone that is not in the list finds room
  pub fits_room : (l : List ℕ) (y : ℕ) → y < zone_count s → holds (is_in y l) ≡ false → Fits l → length l < zone_count s
  fits_room l y h e f = omega (arith, f, one_less s l y h (denies (is_in y l) e))

  pub fits_with : (l : List ℕ) (y : ℕ) → y < zone_count s → Fits l → Fits (with_zone l y)
  fits_with l y h f =
      ⊎_elim (λ e. rw (with_held l y e) f) (λ e. rw (with_new l y e) (longer (denies (is_in y l) e))) (true_or_false (holds (is_in y l)))
    where
      longer : (Means (is_in y l) → ⊥) → Fits (l ++ (y ∷ []))
      longer d = omega (arith, f, one_less s l y h d, length_snoc y l)

  -- ---- the edges over a zone

  -- a run is the edges whose zone below is this one
  pub record RunOver (zone : ℕ) (run : List ℕ) : Type 0 where
    pub own : (j : ℕ) → j < length run → (get_or run j 0 < edge_count s) × (below_of s (get_or run j 0) ≡ zone)
    pub all : (e : ℕ) → e < edge_count s → below_of s e ≡ zone → (j : ℕ) × (j < length run) × (get_or run j 0 ≡ e)

  -- the zone below, as a key
  abbrev lower_key : ℕ → ℕ
  lower_key e = pair_key (below_of s e) 0

  -- a zone's group in the edges sorted by their zone below
  abbrev pub run_of : ℕ → List ℕ
  run_of zone = group lower_key (in_order lower_key (edge_count s)) zone

  pub run_over : (zone : ℕ) → RunOver zone (run_of zone)
  run_over zone = record { own = own; all = all }
    where
      own : (j : ℕ) → j < length (run_of zone) → (get_or (run_of zone) j 0 < edge_count s) × (below_of s (get_or (run_of zone) j 0) ≡ zone)
      own j h =
          let entry = group_entry lower_key (in_order lower_key (edge_count s)) (edge_count s) (sorted_below lower_key (edge_count s)) zone j h in
          (entry.0, omega (arith, entry.1.0, entry.1.1))

      all : (e : ℕ) → e < edge_count s → below_of s e ≡ zone → (j : ℕ) × (j < length (run_of zone)) × (get_or (run_of zone) j 0 ≡ e)
      all e h i =
          group_holds lower_key (in_order lower_key (edge_count s)) (edge_count s) (sorted_below lower_key (edge_count s)) zone e h (omega arith) (omega arith)

  -- a step up leads from x to y
  abbrev StepUp : ℕ → ℕ → Type 0
  StepUp x y = (e : ℕ) × (e < edge_count s) × ((below_of s e ≡ x) × (above_of s e ≡ y))

  module _ (zone : ℕ) (run : List ℕ) (over : RunOver zone run) (l : List ℕ) where
    -- the list with the first so many
    abbrev grown : ℕ → List ℕ
    grown k = with_above s.edges run l k

    above_grown : (k : ℕ) → k ≤ length run → Grown (StepUp zone) l (grown k)
    above_grown zero h = grown_not (StepUp zone) l
    above_grown (suc k) h =
        grown_with (StepUp zone) l (grown k) (above_of s (get_or run k 0)) (above_grown k (omega arith)) (get_or run k 0, (over.own k h).0, ((over.own k h).1, refl))

    above_in : (k j : ℕ) → j < k → k ≤ length run → Means (is_in (above_of s (get_or run j 0)) (grown k))
    above_in zero j b h = absurd (not-suc-le-zero b)
    above_in (suc k) j b h = ⊎_elim last (λ c. held_on (above_in k j c (omega arith))) (below_suc b)
      where
        y : ℕ
        y = above_of s (get_or run k 0)

        last : j ≡ k → Means (is_in (above_of s (get_or run j 0)) (grown (suc k)))
        last e = rw e (in_with (grown k) y)

        held_on : Means (is_in (above_of s (get_or run j 0)) (grown k)) → Means (is_in (above_of s (get_or run j 0)) (grown (suc k)))
        held_on =
            (grown_with (StepUp zone) (grown k) (grown k) y (grown_not (StepUp zone) (grown k)) (get_or run k 0, (over.own k h).0, ((over.own k h).1, refl))).still (above_of s (get_or run j 0))

    -- with the whole run, every step up from the zone leads into the list
    above_all : (e : ℕ) → e < edge_count s → below_of s e ≡ zone → Means (is_in (above_of s e) (grown (length run)))
    above_all e h i = found (over.all e h i)
      where
        found : (j : ℕ) × (j < length run) × (get_or run j 0 ≡ e) → Means (is_in (above_of s e) (grown (length run)))
        found (j, b, q) = rw q at (above_in (length run) j b (le_refl (length run)))

    fits_above : ((e : ℕ) → e < edge_count s → above_of s e < zone_count s) → Fits l → (k : ℕ) → k ≤ length run → Fits (grown k)
    fits_above named f zero h = f
    fits_above named f (suc k) h =
        fits_with (grown k) (above_of s (get_or run k 0)) (named (get_or run k 0) (over.own k h).0) (fits_above named f k (omega arith))

  -- ---- the zones reached from a zone

  module _ (z : ℕ) where
    -- to the entry at place i lead a step up from z and at most i more; every step up from z, and from the entries before the head, leads
    -- into the list
    pub record Reached (l : List ℕ) (head : ℕ) : Type 0 where
      pub steps : (i : ℕ) → i < length l → (e : ℕ) × (e < edge_count s) × ((below_of s e ≡ z) × Means (leads s i (above_of s e) (get_or l i 0)))
      pub first : (e : ℕ) → e < edge_count s → below_of s e ≡ z → Means (is_in (above_of s e) l)
      pub onward : (i : ℕ) → i < head → (e : ℕ) → e < edge_count s → below_of s e ≡ get_or l i 0 → Means (is_in (above_of s e) l)

    -- the steps up from z are taken
    pub reached_first : (run : List ℕ) → RunOver z run → Reached (with_above s.edges run [] (length run)) 0
    reached_first run over =
        record { steps = λ i h. one i ((above_grown z run over [] (length run) (le_refl (length run))).new i (omega arith) h); first = above_all z run over []; onward = λ i h. absurd (not-suc-le-zero h) }
      where
        one : {y : ℕ} (i : ℕ) → StepUp z y → (e : ℕ) × (e < edge_count s) × ((below_of s e ≡ z) × Means (leads s i (above_of s e) y))
        one {y} i (e, h, (b, a)) = (e, h, (b, leads_more s 0 i (above_of s e) y (omega arith) a))

    -- the steps up from the entry at the head are taken
    pub reached_next : (l : List ℕ) (head : ℕ) → Reached l head → head < length l → (run : List ℕ) → RunOver (get_or l head 0) run
        → Reached (with_above s.edges run l (length run)) (suc head)
    reached_next l head r here run over = record { steps = steps; first = λ e h b. g.still (above_of s e) (r.first e h b); onward = onward }
      where
        m : List ℕ
        m = with_above s.edges run l (length run)

        g : Grown (StepUp (get_or l head 0)) l m
        g = above_grown (get_or l head 0) run over l (length run) (le_refl (length run))

        steps : (i : ℕ) → i < length m → (e : ℕ) × (e < edge_count s) × ((below_of s e ≡ z) × Means (leads s i (above_of s e) (get_or m i 0)))
        steps i h = go (dec_le (length l) i)
          where
            one_more : (f : ℕ) → f < edge_count s → below_of s f ≡ get_or l head 0 → length l ≤ i
                → (t : (e : ℕ) × (e < edge_count s) × ((below_of s e ≡ z) × Means (leads s head (above_of s e) (get_or l head 0))))
                → (e : ℕ) × (e < edge_count s) × ((below_of s e ≡ z) × Means (leads s i (above_of s e) (above_of s f)))
            one_more f k b far (e, q, (c, t)) =
                (e, q, (c, leads_more s (suc head) i (above_of s e) (above_of s f) (omega arith) (leads_onward s head (above_of s e) (get_or l head 0) f k b t)))

            far_step : length l ≤ i → StepUp (get_or l head 0) (get_or m i 0)
                → (e : ℕ) × (e < edge_count s) × ((below_of s e ≡ z) × Means (leads s i (above_of s e) (get_or m i 0)))
            far_step far (f, k, (b, a)) = rw (← a) (one_more f k b far (r.steps head here))

            go : Dec (length l ≤ i) → (e : ℕ) × (e < edge_count s) × ((below_of s e ≡ z) × Means (leads s i (above_of s e) (get_or m i 0)))
            go (yes far) = far_step far (g.new i far h)
            go (no near) = rw (g.kept i (omega arith)) (r.steps i (omega arith))

        onward : (i : ℕ) → i < suc head → (e : ℕ) → e < edge_count s → below_of s e ≡ get_or m i 0 → Means (is_in (above_of s e) m)
        onward i h e k b = ⊎_elim last earlier (below_suc h)
          where
            same : below_of s e ≡ get_or l i 0
            same = b ∙ g.kept i (omega arith)

            last : i ≡ head → Means (is_in (above_of s e) m)
            last q = above_all (get_or l head 0) run over l e k (same ∙ ap (λ (j : ℕ). get_or l j 0) q)

            earlier : i < head → Means (is_in (above_of s e) m)
            earlier c = g.still (above_of s e) (r.onward i c e k same)

    module _ (l : List ℕ) (head : ℕ) (r : Reached l head) (whole : length l ≤ head) where
      -- steps from a zone of the list lead to zones of the list, however many they are
      closed : (k a b : ℕ) → Means (is_in a l) → Means (leads s k a b) → Means (is_in b l)
      closed zero a b i m = rw m at i
      closed (suc k) a b i m = ⊎_elim (λ (e : a ≡ b). rw e at i) (λ t. closed k (above_of s t.0) b (up t) t.2.1) m
        where
          up : (t : (e : ℕ) × (e < edge_count s) × ((below_of s e ≡ a) × Means (leads s k (above_of s e) b))) → Means (is_in (above_of s t.0) l)
          up (e, h, (q, t)) = r.onward (position a l) (omega arith) e h (q ∙ sym (entry_at_place a l i))

      comes_in : (k e : ℕ) → e < edge_count s → below_of s e ≡ z → Means (leads s k (above_of s e) z) → Means (is_in z l)
      comes_in k e h b = closed k (above_of s e) z (r.first e h b)

      in_circles : length l ≤ zone_count s → Means (is_in z l) → Means (on_circle s z)
      in_circles few i = back (r.steps (position z l) i)
        where
          back : (e : ℕ) × (e < edge_count s) × ((below_of s e ≡ z) × Means (leads s (position z l) (above_of s e) (get_or l (position z l) 0))) → Means (on_circle s z)
          back (e, h, (b, m)) =
              let round : Means (leads s (position z l) (above_of s e) z) = rw (entry_at_place z l i) at m in
              (e, h, (b, leads_more s (position z l) (zone_count s) (above_of s e) z (omega arith) round))

      -- the zone is on a circle exactly when it stands in the list
      pub reached_circle : length l ≤ zone_count s → holds (is_in z l) ≡ holds (on_circle s z)
      reached_circle few =
          computes (on_circle s z) (holds (is_in z l)) (λ e. in_circles few (means (is_in z l) e)) (λ e c. denies (is_in z l) e (comes_in (zone_count s) c.0 c.1 c.2.0 c.2.1))

    -- ---- that n steps are enough

    -- a list in which the steps of every entry are taken
    record Whole : Type 0 where
      list : List ℕ
      head : ℕ
      reached : Reached list head
      done : length list ≤ head
      fits : Fits list

    module _ (named : (e : ℕ) → e < edge_count s → above_of s e < zone_count s) where
      look_on : (fuel head : ℕ) (l : List ℕ) → Reached l head → Fits l → zone_count s ≤ head + fuel → Whole
      look_on zero head l r f enough = record { list = l; head = head; reached = r; done = omega (arith, fits_within l f); fits = f }
      look_on (suc fuel) head l r f enough =
          ⊎_elim (λ h. record { list = l; head = head; reached = r; done = h; fits = f })
          (λ h. look_on fuel (suc head) (with_above s.edges (run_of (get_or l head 0)) l (length (run_of (get_or l head 0))))
          (reached_next l head r h (run_of (get_or l head 0)) (run_over (get_or l head 0)))
          (fits_above (get_or l head 0) (run_of (get_or l head 0)) (run_over (get_or l head 0)) l named f (length (run_of (get_or l head 0))) (le_refl (length (run_of (get_or l head 0)))))
          (omega arith))
          (split (dec_le (length l) head))
        where
          split : Dec (length l ≤ head) → (length l ≤ head) ⊎ (head < length l)
          split (yes h) = inl h
          split (no h) = inr (omega arith)

      whole_list : Whole
      whole_list =
          look_on (zone_count s) 0 (with_above s.edges (run_of z) [] (length (run_of z))) (reached_first (run_of z) (run_over z))
          (fits_above z (run_of z) (run_over z) [] named fits_none (length (run_of z)) (le_refl (length (run_of z)))) (omega arith)

      -- a zone to which any number of steps up leads back is on a circle
      pub any_steps : (k e : ℕ) → e < edge_count s → below_of s e ≡ z → Means (leads s k (above_of s e) z) → Means (on_circle s z)
      any_steps k e h b m =
          in_circles whole_list.list whole_list.head whole_list.reached whole_list.done (fits_within whole_list.list whole_list.fits)
          (comes_in whole_list.list whole_list.head whole_list.reached whole_list.done k e h b m)
