-- On an accepted sheet the descent is the same over all look-ups that give what the tables give, judged or not: it ends with the plain reading, and examines no edge twice.
use mathlib.Core.Path.{◌≡◌, refl, sym, ap, ◌∙◌}
use mathlib.Core.Bool.{Bool, true, false}
use mathlib.Core.List.{List, [], ◌∷◌, ◌++◌}
use mathlib.Core.Logic.{◌⊎◌, inl, inr, ⊎_elim, by_cases}
use Prim.Native.Nat.{ℕ, zero, suc, ◌*◌, ◌<◌, ◌≤◌}
use native.Mathlib.Nat.{le_refl, not-suc-le-zero}
use native.Mathlib.Decide.{dec_lt}
use native.Mathlib.Omega.{arith}
use lib.Dec.{leb, ltb}
use lib.ListN.{length, get_or, length-append, get_or-append}
use lib.Seq.{get_or-append_seam}
use borrow.Author.Tests.{ltb-false, leb-false}
use Rattle.subdivision.specs.Results.{covered}
use Rattle.subdivision.specs.declared.Answer.TheVariants.{Zone}
use Rattle.std.specs.Prelude.{Option, Some, None}
use Rattle.subdivision.specs.declared.Side.{Side}
use Rattle.subdivision.specs.declared.Side.TheVariants.{Below, On, Above}
use Rattle.subdivision.specs.Formula.{is_less, is_at_most}
use Rattle.subdivision.specs.Dyadic.{left_son, right_son}
use Rattle.subdivision.specs.Sheet.{Sheet, edge_count, zone_count, above_of, below_of, segment}
use Rattle.subdivision.specs.Lines.{side_at}
use Rattle.subdivision.specs.Accepted.{Accepted}
use Rattle.subdivision.specs.Placed.{OnSheet, Covers}
use Rattle.subdivision.specs.Reading.{plain_reading}
use Rattle.subdivision.specs.Index.{place_of, zone_at, chain_of, index_words}
use Rattle.subdivision.specs.Lists.{put}
use Rattle.subdivision.specs.Descent.{LookUps, Descent, Turn, onward, answered, damaged, breaks, start, places_sound, probe_chain, to_chain, past, stepped, examined, examine, arrived, turn, turns, descent, table_look_ups, index_look_ups}
use Rattle.subdivision.specs.Engine.{NoneTwice}
use Rattle.theory.proofs.Blocks.{block_lca}
use Rattle.theory.proofs.ChainCovers.{chain_probed}
use Rattle.theory.proofs.Descents.{Sound, turns_left, start_sound, start_left, left_some, turn_sound, turn_falls}
use Rattle.theory.proofs.FaithfulLookUps.{Faithful, index_faithful, breaks_not, starts_kept_lem, chain_probed_alike}
use Rattle.theory.proofs.Floors.{Floor, Ceiling, separating, separating_between, on_edge_plain, meeting_plain, above_is_under, below_is_over}
use Rattle.theory.proofs.HeldIndex.{written_holds}
use Rattle.theory.proofs.Places.{zone_at_below}

-- ---- a trail with one more edge

-- entry p of a trail l with the edge e more is an entry of l, or e
abbrev BeforeOrLast : List ℕ → ℕ → ℕ → Type 0
BeforeOrLast l e p = ((p < length l) × (get_or (l ++ (e ∷ [])) p 0 ≡ get_or l p 0)) ⊎ ((p ≡ length l) × (get_or (l ++ (e ∷ [])) p 0 ≡ e))

before_or_last : (l : List ℕ) (e p : ℕ) → p < length (l ++ (e ∷ [])) → BeforeOrLast l e p
before_or_last l e p h =
    by_cases (dec_lt p (length l))
    (λ (b : p < length l). inl (b, get_or-append l (e ∷ []) 0 p b))
    (λ n. let at : p ≡ length l = omega (arith, n, length-append l (e ∷ [])) in inr (at, rw at (get_or-append_seam l e [] 0)))

-- an edge that was not in the trail is in it once
none_twice_more : (l : List ℕ) (e : ℕ) → NoneTwice l → ((p : ℕ) → p < length l → get_or l p 0 ≡ e → ⊥) → NoneTwice (l ++ (e ∷ []))
none_twice_more l e none new p q h b same = go (before_or_last l e q b)
  where
    first : p < length l → get_or (l ++ (e ∷ [])) p 0 ≡ get_or l p 0
    first c = get_or-append l (e ∷ []) 0 p c

    go : BeforeOrLast l e q → ⊥
    go (inl (c, i)) = none p q h c (sym (first (omega arith)) ∙ (same ∙ i))
    go (inr (c, i)) = new p (omega arith) (sym (first (omega arith)) ∙ (same ∙ i))

module _ (s : Sheet) (a : Accepted s) (x y : ℕ) (o : OnSheet s x y) where
  -- edge e has not both its places between i and j
  abbrev Outside : ℕ → ℕ → ℕ → Type 0
  Outside i j e = (place_of s (above_of s e) ≤ i) ⊎ (j ≤ place_of s (below_of s e))

  -- what a descent knows: the point lies between the places i and j, and no examined edge does
  record Knows (d : Descent) : Type 0 where
    floor : Floor s x y d.i
    ceiling : Ceiling s x y d.j
    outside : (p : ℕ) → p < length d.trail → Outside d.i d.j (get_or d.trail p 0)
    none_twice : NoneTwice d.trail

  -- a turn leads on with what is known, or to the plain reading
  abbrev Leads : Turn → Type 0
  Leads (onward next) = Knows next
  Leads (answered r last) = (r ≡ plain_reading s x y) × NoneTwice last.trail
  Leads damaged = ⊥

  -- a turn over any look-ups that give what the tables give is one and the same
  abbrev SameTurn : Descent → Type 0
  SameTurn d = (t : Turn) × Leads t × ((w : LookUps) → Faithful s w → turn s w x y d ≡ t)

  -- ---- at i = j

  arrived_same : (d : Descent) → Sound s d → Knows d → ltb d.i d.j ≡ false → SameTurn d
  arrived_same d sound known e =
      (answered (Zone (zone_at s d.i)) d, (meeting_plain s a x y o d.i known.floor (rw met at known.ceiling), known.none_twice), so)
    where
      met : d.j ≡ d.i
      met = omega (arith, sound.ordered, ltb-false d.i d.j e)

      inside : d.i < zone_count s
      inside = omega (arith, sound.ordered, sound.inside)

      so : (w : LookUps) → Faithful s w → turn s w x y d ≡ answered (Zone (zone_at s d.i)) d
      so w f = rw (e, turn, breaks_not w (is_less (w.zone d.i) (zone_count s)) (rw (f.zoned d.i inside) (zone_at_below s a d.i inside)), arrived) (ap (λ z. answered (Zone z) d) (f.zoned d.i inside))

  -- ---- to a son

  -- where k becomes a son's, all that is known stays
  son_same : (d : Descent) (k : ℕ) → Knows d → ((w : LookUps) → turn s w x y d ≡ onward (to_chain d k)) → SameTurn d
  son_same d k known so = (onward (to_chain d k), record { floor = known.floor; ceiling = known.ceiling; outside = known.outside; none_twice = known.none_twice }, λ w f. so w)

  -- ---- chain k is examined, and its edge e that covers x is found

  module _ (d : Descent) (sound : Sound s d) (known : Knows d) (low : d.i < d.k) (high : d.k ≤ d.j) (e : ℕ) (b : e < edge_count s) (c : Covers s x e)
      (below : place_of s (below_of s e) < d.k) (above : d.k ≤ place_of s (above_of s e)) where
    between : (d.i ≤ place_of s (below_of s e)) × (place_of s (above_of s e) ≤ d.j)
    between = separating_between s a x y o d.i d.j d.k e known.floor known.ceiling low high b c below above

    chain_inside : d.k < zone_count s
    chain_inside = omega (arith, sound.inside)

    in_chain : chain_of s e ≡ d.k
    unfolding chain_of
    in_chain =
        let blocks = sound.blocked (omega arith) in
        block_lca d.k (place_of s (below_of s e)) (place_of s (above_of s e)) below above
        (omega (arith, blocks.0.0, between.0), omega arith) (omega arith, omega (arith, blocks.1.1, between.1))

    -- the probes of the chain on the tables
    probed : (q : ℕ) × (probe_chain s (table_look_ups s) x d.k d.probes ≡ covered e q)
    probed = chain_probed s a x d.k e d.probes b in_chain c

    -- the state past the edge
    abbrev next : ℕ → ℕ → Descent
    next = past d e probed.0

    -- where the examination leads, by the side of the point
    abbrev after : Side → Turn
    after On = answered (plain_reading s x y) (next d.i d.j)
    after Above = onward (next (place_of s (above_of s e)) d.j)
    after Below = onward (next d.i (place_of s (below_of s e)))

    -- ---- what is known after it

    -- the edge is examined for the first time
    first_time : NoneTwice (d.trail ++ (e ∷ []))
    first_time = none_twice_more d.trail e known.none_twice new
      where
        new : (p : ℕ) → p < length d.trail → get_or d.trail p 0 ≡ e → ⊥
        new p h same = go (rw same at (known.outside p h))
          where
            go : Outside d.i d.j e → ⊥
            go (inl q) = omega arith
            go (inr q) = omega arith

    -- new places between the old ones, with the edge outside them
    learns : (i j : ℕ) → Floor s x y i → Ceiling s x y j → d.i ≤ i → j ≤ d.j → Outside i j e → Knows (next i j)
    learns i j f g up down out = record { floor = f; ceiling = g; outside = λ p h. go p (before_or_last d.trail e p h); none_twice = first_time }
      where
        go : (p : ℕ) → BeforeOrLast d.trail e p → Outside i j (get_or (d.trail ++ (e ∷ [])) p 0)
        go p (inl (m, same)) = rw same (⊎_elim (λ q. inl (omega (arith, q))) (λ q. inr (omega (arith, q))) (known.outside p m))
        go p (inr (m, same)) = rw same out

    leads : (g : Side) → side_at (segment s e) x y ≡ g → Leads (after g)
    leads On side = (refl, first_time)
    leads Above side =
        learns (place_of s (above_of s e)) d.j (inr (e, (b, (c, above_is_under s x y e side)), refl)) known.ceiling (omega (arith, between.0)) (le_refl d.j) (inl (le_refl (place_of s (above_of s e))))
    leads Below side =
        learns d.i (place_of s (below_of s e)) known.floor (inr (e, (b, (c, below_is_over s x y e side)), refl)) (le_refl d.i) (omega (arith, between.1)) (inr (le_refl (place_of s (below_of s e))))

    -- ---- it is so over all look-ups that give what the tables give

    module _ (w : LookUps) (f : Faithful s w) where
      place_above : w.place (above_of s e) ≡ place_of s (above_of s e)
      place_above = f.placed (above_of s e) (a.two.0 e b).1.0

      place_below : w.place (below_of s e) ≡ place_of s (below_of s e)
      place_below = f.placed (below_of s e) (a.two.0 e b).1.1

      places_kept_lem : breaks w (places_sound s w d.k e) ≡ false
      places_kept_lem =
          breaks_not w (places_sound s w d.k e)
          (rw (place_above, place_below) ((omega (arith, chain_inside), omega (arith, between.1, sound.inside)), (below, above)))

      stays : (i j : ℕ) → i ≤ j → stepped w (next i j) ≡ onward (next i j)
      stays i j h = rw (breaks_not w (is_at_most i j) h, stepped)

      steps : (g : Side) → side_at (segment s e) x y ≡ g → examined s w x y d e probed.0 ≡ after g
      steps On side = rw (places_kept_lem, examined, side) (ap (λ r. answered r (next d.i d.j)) (on_edge_plain s a x y o e b c side))
      steps Above side =
          rw (places_kept_lem, examined, side) (ap (λ i. stepped w (next i d.j)) place_above ∙ stays (place_of s (above_of s e)) d.j between.1)
      steps Below side =
          rw (places_kept_lem, examined, side) (ap (λ j. stepped w (next d.i j)) place_below ∙ stays d.i (place_of s (below_of s e)) between.0)

      examines : examine s w x y d ≡ after (side_at (segment s e) x y)
      examines = rw (starts_kept_lem s a w f x d.k chain_inside, examine, chain_probed_alike s a w f x d.k chain_inside d.probes, probed.1) (steps (side_at (segment s e) x y) refl)

  examine_same : (d : Descent) → Sound s d → Knows d → ltb d.i d.j ≡ true → ltb d.j d.k ≡ false → leb d.k d.i ≡ false → SameTurn d
  examine_same d sound known l m n = go (separating s a x y o d.k (omega (arith, low)) (omega (arith, high, sound.inside)))
    where
      low : d.i < d.k
      low = leb-false d.k d.i n

      high : d.k ≤ d.j
      high = ltb-false d.j d.k m

      go : (e : ℕ) × ((e < edge_count s) × Covers s x e) × ((place_of s (below_of s e) < d.k) × (d.k ≤ place_of s (above_of s e))) → SameTurn d
      go (e, (b, c), (below, above)) =
          (after d sound known low high e b c below above (side_at (segment s e) x y), leads d sound known low high e b c below above (side_at (segment s e) x y) refl, λ w f. rw (l, m, n, turn) (examines d sound known low high e b c below above w f))

  -- ---- a turn, and all turns

  turn_same : (d : Descent) → Sound s d → Knows d → SameTurn d
  turn_same d sound known = go (ltb d.i d.j) refl (ltb d.j d.k) refl (leb d.k d.i) refl
    where
      go : (l : Bool) → ltb d.i d.j ≡ l → (m : Bool) → ltb d.j d.k ≡ m → (n : Bool) → leb d.k d.i ≡ n → SameTurn d
      go false p m q n r = arrived_same d sound known p
      go true p true q n r = son_same d (left_son d.k) known (λ w. rw (p, q, turn))
      go true p false q true r = son_same d (right_son d.k) known (λ w. rw (p, q, r, turn))
      go true p false q false r = examine_same d sound known p q r

  -- over all look-ups that give what the tables give a descent ends alike: with the plain reading, and with no edge examined twice
  abbrev pub SameEnd : (LookUps → Turn) → Type 0
  SameEnd ended = (last : Descent) × NoneTwice last.trail × ((w : LookUps) → Faithful s w → ended w ≡ answered (plain_reading s x y) last)

  -- an index that holds what opening writes
  abbrev written : List ℕ
  written = put (index_words s) []

  -- so it does with as many turns as it has left
  turns_same : (fuel : ℕ) (d : Descent) → Sound s d → Knows d → turns_left d ≤ fuel → SameEnd (λ w. turns s w x y fuel d)
  turns_same zero d sound known h = absurd (omega (arith, left_some s d sound))
  turns_same (suc fuel) d sound known h = go (turn_same d sound known) (turns_same fuel)
    where
      go : SameTurn d → ((next : Descent) → Sound s next → Knows next → turns_left next ≤ fuel → SameEnd (λ w. turns s w x y fuel next)) → SameEnd (λ w. turns s w x y (suc fuel) d)
      go (onward next, leads, so) rest =
          let e : turn s (index_look_ups s written) x y d ≡ onward next = so (index_look_ups s written) (index_faithful s written (written_holds s a [])) in
          let r = rest next (turn_sound s written x y d next sound e) leads (omega (arith, turn_falls s written x y d next sound e)) in
          (r.0, r.1, λ w f. rw (so w f, turns) (r.2 w f))
      go (answered r last, leads, so) rest = (last, leads.1, λ w f. rw (so w f, turns) (ap (λ q. answered q last) leads.0))
      go (damaged, leads, so) rest = absurd leads

  start_knows : Knows (start s)
  start_knows =
      record { floor = inl refl; ceiling = inl refl; outside = λ p h. absurd (not-suc-le-zero h); none_twice = λ p q l h. absurd (not-suc-le-zero h) }

  -- the descent ends with the plain reading, in one and the same state over all look-ups that give what the tables give
  pub descent_same : SameEnd (λ w. descent s w x y)
  unfolding descent
  descent_same = turns_same (2 * zone_count s) (start s) (start_sound s a.counts.1.1.0) start_knows (start_left s a.counts.1.1.0)
