-- No two edges of a sheet that keeps rules 1, 2 and 4 cross: on the overlap of two they are in one order throughout, and where they meet they have a common end.
use mathlib.Core.Path.{◌≡◌, refl, sym, ap, ◌∙◌}
use mathlib.Core.Logic.Dec
use mathlib.Core.Logic.{◌⊎◌, ◌↔◌, inl, inr, ⊎_elim, by_cases}
use Prim.Native.Nat.{ℕ, ◌+◌, ◌*◌, ◌<◌, ◌≤◌, min, max}
use native.Mathlib.Decide.{dec_lt, ℕ_discrete}
use native.Mathlib.Nat.{le_refl, eq-or-lt_of_le}
use native.Mathlib.Omega.{arith}
use Rattle.subdivision.specs.Sheet.{Sheet, vertex_count, edge_count, x_of, y_of, west_of, east_of, segment}
use Rattle.subdivision.specs.Lines.{overlap_west, overlap_east}
use Rattle.subdivision.specs.Accepted.{Lower, Level, Conflict, Rule1, Rule2, Rule4}
use Rattle.theory.proofs.LineOrder.{lower_irreflexive, level_unless_lower}
use Rattle.theory.proofs.Crossings.{Reaches, Crosses, IsEnd, NoCrossing}
use Rattle.theory.proofs.Scale.{scaled}
use Rattle.theory.proofs.Overlaps.{unlevel_inside, order_kept, between_ends, conflict_symmetric}
use Rattle.theory.proofs.Repeats.{same_point_lem}
use Rattle.theory.proofs.Scaling.{one_scale}

-- of two stretches that meet in x alone, one starts there and the other ends there
touch_ends : (a b c d x : ℕ) → a < b → c < d → a ≤ x → x ≤ b → c ≤ x → x ≤ d → (max a c < min b d → ⊥) → ((a ≡ x) × (d ≡ x)) ⊎ ((c ≡ x) × (b ≡ x))
touch_ends a b c d x i j k l m n o = by_cases (ℕ_discrete a x) (λ e. inl (e, omega arith)) (λ e. inr (omega arith, omega arith))

module _ (s : Sheet) where
  -- the abscissa where the overlap of edges e and f starts
  abbrev start : ℕ → ℕ → ℕ
  start e f = overlap_west (segment s e) (segment s f)

  -- the abscissa where it ends
  abbrev finish : ℕ → ℕ → ℕ
  finish e f = overlap_east (segment s e) (segment s f)

  both_cross : (x e f : ℕ) → Crosses s x e → Crosses s x f → (start e f ≤ x) × (x < finish e f)
  both_cross x e f a b = (omega (arith, a, b), omega (arith, a, b))

  both_reach : (x e f : ℕ) → Reaches s x e → Reaches s x f → (start e f ≤ x) × (x ≤ finish e f)
  both_reach x e f a b = (omega (arith, a, b), omega (arith, a, b))

  -- two different edges are in no conflict, in whatever order they are numbered
  no_conflict : Rule4 s → (e f : ℕ) → e < edge_count s → f < edge_count s → (e ≡ f → ⊥) → Conflict (segment s e) (segment s f) → ⊥
  no_conflict rule4 e f he hf n c =
      by_cases (dec_lt e f) (λ l. rule4 f hf e l c) (λ l. rule4 e he f (omega (arith, n)) (conflict_symmetric (segment s e) (segment s f) c))

  level_of_equal : Rule2 s → (c e f : ℕ) → e < edge_count s → f < edge_count s → scaled s c e ≡ scaled s c f → Level c (segment s e) (segment s f)
  level_of_equal rule2 c e f he hf i =
      level_unless_lower c (segment s e) (segment s f) (λ l. omega (arith, ((one_scale s rule2).lower_less c e f he hf).0 l)) (λ l. omega (arith, ((one_scale s rule2).lower_less c f e hf he).0 l))

  -- of two edges that cross a half line, that is lower which is lower at an end of their overlap
  pub lower_between_lem : Rule4 s → (x e f : ℕ) → Crosses s x e → Crosses s x f
      → Lower (2 * x + 1) (segment s e) (segment s f)
      ↔ (Lower (2 * max (segment s e).xw (segment s f).xw) (segment s e) (segment s f) ⊎ Lower (2 * min (segment s e).xe (segment s f).xe) (segment s e) (segment s f))
  lower_between_lem rule4 x e f a b =
      by_cases (ℕ_discrete e f)
      (λ (i : e ≡ f). rw i (λ l. absurd (lower_irreflexive _ (segment s f) l), λ l. absurd (⊎_elim (lower_irreflexive _ (segment s f)) (lower_irreflexive _ (segment s f)) l)))
      (λ n.
      let o = both_cross x e f a b in
      between_ends (segment s e) (segment s f) (no_conflict rule4 e f a.0 b.0 n) (2 * x + 1) (omega arith) (omega arith))

  module _ (rule2 : Rule2 s) (rule4 : Rule4 s) where
    -- two different edges, by their heights to the common scale
    module _ (e f : ℕ) (he : e < edge_count s) (hf : f < edge_count s) (n : e ≡ f → ⊥) where
      apart_inside : (c : ℕ) → 2 * start e f < c → c < 2 * finish e f → scaled s c e ≡ scaled s c f → ⊥
      apart_inside c i j k = unlevel_inside (segment s e) (segment s f) (no_conflict rule4 e f he hf n) c i j (level_of_equal rule2 c e f he hf k)

      order_inside : (c : ℕ) → 2 * start e f < c → c < 2 * finish e f → scaled s c e ≤ scaled s c f
          → (d : ℕ) → 2 * start e f ≤ d → d ≤ 2 * finish e f → scaled s d e ≤ scaled s d f
      order_inside c i j k d u v = omega (arith, not_above)
        where
          below : Lower c (segment s e) (segment s f)
          below = ((one_scale s rule2).lower_less c e f he hf).1 (omega (arith, apart_inside c i j))

          not_above : ¬ (scaled s d f < scaled s d e)
          not_above l = order_kept (segment s e) (segment s f) (no_conflict rule4 e f he hf n) c i j below d u v (((one_scale s rule2).lower_less d f e hf he).1 l)

      -- equally high where their overlap starts the two start there together
      start_together : start e f < finish e f → scaled s (2 * start e f) e ≡ scaled s (2 * start e f) f → west_of s e ≡ west_of s f
      start_together o i =
          (Dec.not-not (ℕ_discrete (west_of s e) (west_of s f))).0 (λ m. no_conflict rule4 e f he hf n (o, inr (inr (inl (level_of_equal rule2 _ e f he hf i, m)))))

      -- equally high where it ends they end there together
      end_together : start e f < finish e f → scaled s (2 * finish e f) e ≡ scaled s (2 * finish e f) f → east_of s e ≡ east_of s f
      end_together o i =
          (Dec.not-not (ℕ_discrete (east_of s e) (east_of s f))).0 (λ m. no_conflict rule4 e f he hf n (o, inr (inr (inr (level_of_equal rule2 _ e f he hf i, m)))))

    -- two edges that cross a half line are apart on it
    apart_between : (x e f : ℕ) → Crosses s x e → Crosses s x f → scaled s (2 * x + 1) e ≡ scaled s (2 * x + 1) f → e ≡ f
    apart_between x e f a b i =
        (Dec.not-not (ℕ_discrete e f)).0
        (λ n.
        let o = both_cross x e f a b in
        apart_inside e f a.0 b.0 n (2 * x + 1) (omega arith) (omega arith) i)

    -- they are in the same order, weakly, on all of their overlap
    order_between : (x e f : ℕ) → Crosses s x e → Crosses s x f → scaled s (2 * x + 1) e ≤ scaled s (2 * x + 1) f
        → (d : ℕ) → 2 * start e f ≤ d → d ≤ 2 * finish e f → scaled s d e ≤ scaled s d f
    order_between x e f a b l d u v =
        by_cases (ℕ_discrete e f) (λ (i : e ≡ f). rw i (le_refl (scaled s d f)))
        (λ n.
        let o = both_cross x e f a b in
        order_inside e f a.0 b.0 n (2 * x + 1) (omega arith) (omega arith) l d u v)

    module _ (rule1 : Rule1 s) where
      -- a vertex at the abscissa x is an end of both edges
      abbrev CommonEnd : ℕ → ℕ → ℕ → Type 0
      CommonEnd x e f = (v : ℕ) × (v < vertex_count s) × (x_of s v ≡ x) × (IsEnd s v e × IsEnd s v f)

      -- equally high at x, an edge starts there where another ends
      start_at_end : (x e f : ℕ) → e < edge_count s → f < edge_count s → x_of s (west_of s e) ≡ x → x_of s (east_of s f) ≡ x
          → scaled s (2 * x) e ≡ scaled s (2 * x) f → west_of s e ≡ east_of s f
      start_at_end x e f he hf i j k =
          same_point_lem s rule1 (west_of s e) (east_of s f) (rule2.0 e he).0.0 (rule2.0 f hf).0.1 (i ∙ sym j)
          ((one_scale s rule2).level_same (y_of s (west_of s e)) (y_of s (east_of s f)) (sym (rw i at ((one_scale s rule2).western_end e he)) ∙ k ∙ (rw j at ((one_scale s rule2).eastern_end f hf))))

      -- two different edges that are equally high at x have a common end there
      common_end : (x e f : ℕ) → Reaches s x e → Reaches s x f → scaled s (2 * x) e ≡ scaled s (2 * x) f → (e ≡ f → ⊥) → CommonEnd x e f
      common_end x e f a b i n = by_cases (dec_lt (start e f) (finish e f)) overlap touch
        where
          at_start : start e f < finish e f → start e f ≡ x → CommonEnd x e f
          at_start o j =
              let k : west_of s e ≡ west_of s f = start_together e f a.0 b.0 n o (rw j i) in
              let m : x_of s (west_of s e) ≡ x_of s (west_of s f) = ap (x_of s) k in
              (west_of s e, (rule2.0 e a.0).0.0, omega arith, (inl refl, inl (sym k)))

          at_finish : start e f < finish e f → x ≡ finish e f → CommonEnd x e f
          at_finish o j =
              let k : east_of s e ≡ east_of s f = end_together e f a.0 b.0 n o (rw (← j) i) in
              let m : x_of s (east_of s e) ≡ x_of s (east_of s f) = ap (x_of s) k in
              (east_of s e, (rule2.0 e a.0).0.1, omega arith, (inr refl, inr (sym k)))

          overlap : start e f < finish e f → CommonEnd x e f
          overlap o =
              ⊎_elim (at_start o)
              (λ j.
              ⊎_elim (at_finish o) (λ k. absurd (apart_inside e f a.0 b.0 n (2 * x) (omega arith) (omega arith) i))
              (eq-or-lt_of_le (both_reach x e f a b).1)) (eq-or-lt_of_le (both_reach x e f a b).0)

          touch : (start e f < finish e f → ⊥) → CommonEnd x e f
          touch o =
              ⊎_elim (λ j. (west_of s e, (rule2.0 e a.0).0.0, j.0, (inl refl, inr (sym (start_at_end x e f a.0 b.0 j.0 j.1 i)))))
              (λ j. (west_of s f, (rule2.0 f b.0).0.0, j.0, (inr (sym (start_at_end x f e b.0 a.0 j.0 j.1 (sym i))), inl refl)))
              (touch_ends _ _ _ _ x (rule2.1.0 e a.0) (rule2.1.0 f b.0) a.1.0 a.1.1 b.1.0 b.1.1 o)

-- rules 1, 2 and 4: no two edges cross
pub no_crossing : (s : Sheet) → Rule1 s → Rule2 s → Rule4 s → NoCrossing s
no_crossing s rule1 rule2 rule4 =
    record {
      apart = apart_between s rule2 rule4;
      near = λ x e f a b l. let o = both_cross s x e f a b in order_between s rule2 rule4 x e f a b l (2 * x) (omega arith) (omega arith);
      far = λ x e f a b l. let o = both_cross s x e f a b in order_between s rule2 rule4 x e f a b l (2 * (x + 1)) (omega arith) (omega arith);
      meet = λ x e f a b i. by_cases (ℕ_discrete e f) inl (λ n. inr (common_end s rule2 rule4 rule1 x e f a b i n));
    }
