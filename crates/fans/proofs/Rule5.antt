-- Rule 5 at a vertex, and between two vertices of the margin, is decided on lists of their fans.
use mathlib.Core.Path.{◌≡◌, ap, subst, ◌∙◌}
use mathlib.Core.Bool.{Bool, true, false}
use mathlib.Core.List.{List}
use mathlib.Core.Logic.{inl, inr, ⊎_elim}
use Prim.Native.Nat.{ℕ, ◌<◌}
use lib.ListN.{length, get_or}
use Rattle.subdivision.specs.Formula.{Formula, is_equal, both, implies, every_below, holds, Means}
use Rattle.subdivision.specs.Sheet.{Sheet, edge_count, x_of, above_of, below_of}
use Rattle.subdivision.specs.Neighbours.{is_highest, is_lowest}
use Rattle.subdivision.specs.Rules.{line_west_of, line_east_of, eastern_edge, fan_agrees, western_names, eastern_names, tops_and_bottoms}
use Rattle.subdivision.specs.Accepted.{Highest, Lowest, Western, Eastern, Rule2, Rule4}
use Rattle.theory.proofs.Decide.{means, denies, computes}
use Rattle.theory.proofs.Beside.{line_beside}
use Rattle.theory.proofs.FanOrder.{end_of, OfFan, LowerBeside, fan_order_lem}
use Rattle.fans.specs.Fans.{furthest, next_in, tied, fan_tied, fans_tied, vertex_tied, margin_tied}
use Rattle.fans.proofs.Under.{under_reads}
use Rattle.fans.proofs.Next.{UpFrom, NearerUp, next_nearest}
use Rattle.fans.proofs.Furthest.{Each}
use Rattle.fans.proofs.FanLists.{FanList}
use Rattle.fans.proofs.Ends.{furthest_is_end, ends_are_furthest}

-- two formulas that follow from each other hold together
same_holds : (p q : Formula) → (Means p → Means q) → (Means q → Means p) → holds p ≡ holds q
same_holds p q f g = computes q (holds p) (λ e. f (means p e)) (λ e m. denies p e (g m))

module _ (s : Sheet) where
  -- rule 5 in the eastern or western fan of vertex v
  abbrev fan_names : Bool → ℕ → Formula
  fan_names eastern v = fan_agrees s (line_beside eastern (x_of s v) 1) (λ e. is_equal (end_of s eastern e) v)

  -- the top eastern edge of vertex v has as its zone above the zone below the bottom eastern edge of vertex u
  abbrev pub top_meets_bottom : ℕ → ℕ → Formula
  top_meets_bottom v u =
      every_below (edge_count s) (λ e. every_below (edge_count s) (λ f.
      implies (both (is_highest s (line_east_of s v) (eastern_edge s v) e) (is_lowest s (line_east_of s u) (eastern_edge s u) f)) (is_equal (above_of s e) (below_of s f))))

  -- r is e itself or an edge of the fan above it, and none is nearer
  abbrev NearestUp : Bool → ℕ → ℕ → ℕ → Type 0
  NearestUp eastern v e r =
      UpFrom (OfFan s eastern v) (LowerBeside s eastern v) e r × ((f : ℕ) → OfFan s eastern v f → NearerUp (LowerBeside s eastern v) e r f → ⊥)

  module _ (rule2 : Rule2 s) (rule4 : Rule4 s) where
    next_is_nearest : (eastern : Bool) (v : ℕ) (l : List ℕ) → FanList s eastern v l → (e : ℕ) → OfFan s eastern v e → NearestUp eastern v e (next_in s.vertices s.edges eastern l e)
    next_is_nearest eastern v l k e a = (found.0, λ f b. none f (k.whole f b))
      where
        r : ℕ
        r = next_in s.vertices s.edges eastern l e

        found : UpFrom (OfFan s eastern v) (LowerBeside s eastern v) e r × Each (λ f. NearerUp (LowerBeside s eastern v) e r f → ⊥) l
        found = next_nearest s.vertices s.edges eastern (OfFan s eastern v) (LowerBeside s eastern v) (fan_order_lem s rule2 rule4 eastern v) (under_reads s rule2 eastern v) e a l k.entries

        none : (f : ℕ) → (i : ℕ) × (i < length l) × (get_or l i 0 ≡ f) → NearerUp (LowerBeside s eastern v) e r f → ⊥
        none f (i, b, q) m = found.1 i b (rw q m)

    tied_agrees : (eastern : Bool) (v : ℕ) (l : List ℕ) → FanList s eastern v l → Means (fan_tied s.vertices s.edges eastern l) → Means (fan_names eastern v)
    tied_agrees eastern v l k t e he f hf n =
        ⊎_elim alone next (subst (λ (j : ℕ). Means (tied s.vertices s.edges eastern l j)) at.2 (t at.0 at.1))
      where
        r : ℕ
        r = next_in s.vertices s.edges eastern l e

        at : (i : ℕ) × (i < length l) × (get_or l i 0 ≡ e)
        at = k.whole e (he, n.0.0)

        up : NearestUp eastern v e r
        up = next_is_nearest eastern v l k e (he, n.0.0)

        alone : next_in s.vertices s.edges eastern l e ≡ e → above_of s e ≡ below_of s f
        alone i = absurd (up.1 f (hf, n.0.1) (n.1.0, inl i))

        not_over : LowerBeside s eastern v r f → ⊥
        not_over m =
            ⊎_elim (λ i. up.1 f (hf, n.0.1) (n.1.0, inl i)) (λ l. n.1.1 r up.0.0.0 (up.0.0.1, l) m) up.0.1

        same : r ≡ f
        same = (fan_order_lem s rule2 rule4 eastern v).total r f up.0.0 (hf, n.0.1) not_over (λ m. up.1 f (hf, n.0.1) (n.1.0, inr m))

        next : above_of s e ≡ below_of s (next_in s.vertices s.edges eastern l e) → above_of s e ≡ below_of s f
        next i = i ∙ ap (below_of s) same

    agrees_tied : (eastern : Bool) (v : ℕ) (l : List ℕ) → FanList s eastern v l → Means (fan_names eastern v) → Means (fan_tied s.vertices s.edges eastern l)
    agrees_tied eastern v l k m i h = ⊎_elim inl (λ u. inr (m e a.0 r up.0.0.0 ((a.1, up.0.0.1), (u, between)))) up.0.1
      where
        e : ℕ
        e = get_or l i 0

        a : OfFan s eastern v e
        a = k.entries i h

        r : ℕ
        r = next_in s.vertices s.edges eastern l e

        up : NearestUp eastern v e r
        up = next_is_nearest eastern v l k e a

        between : (g : ℕ) → g < edge_count s → (end_of s eastern g ≡ v) × LowerBeside s eastern v e g → LowerBeside s eastern v g r → ⊥
        between g b p q = up.1 g (b, p.0) (p.1, inr q)

    fans_agree : (western eastern : List ℕ) (v : ℕ) → FanList s false v western → FanList s true v eastern
        → Means (fans_tied s.vertices s.edges western eastern) → Means (tops_and_bottoms s v)
    fans_agree western eastern v a b t e he f hf = (λ p. tops p.0 p.1, λ p. bottoms p.0 p.1)
      where
        tops : Highest s (line_west_of s v) (Western s v) e → Highest s (line_east_of s v) (Eastern s v) f → above_of s e ≡ above_of s f
        tops p q =
            ends_are_furthest s rule2 rule4 (λ i j. above_of s i ≡ above_of s j) false true true true v v western eastern a b (λ d. (t d).0) e f
            ((he, p.0), λ g c. p.1 g c.0 c.1) ((hf, q.0), λ g c. q.1 g c.0 c.1)

        bottoms : Lowest s (line_west_of s v) (Western s v) e → Lowest s (line_east_of s v) (Eastern s v) f → below_of s e ≡ below_of s f
        bottoms p q =
            ends_are_furthest s rule2 rule4 (λ i j. below_of s i ≡ below_of s j) false false true false v v western eastern a b (λ d. (t d).1) e f
            ((he, p.0), λ g c. p.1 g c.0 c.1) ((hf, q.0), λ g c. q.1 g c.0 c.1)

    -- the furthest edge up the list of a fan is its highest
    top_highest : (eastern : Bool) (v : ℕ) (l : List ℕ) → FanList s eastern v l → 0 < length l
        → let e : ℕ = furthest s.vertices s.edges eastern true l in
        (e < edge_count s) × Highest s (line_beside eastern (x_of s v) 1) (λ f. end_of s eastern f ≡ v) e
    top_highest eastern v l k h =
        let r = furthest_is_end s rule2 rule4 eastern true v l k h in
        (r.0.0, (r.0.1, λ f b c. r.1 f (b, c)))

    -- the furthest edge down is its lowest
    bottom_lowest : (eastern : Bool) (v : ℕ) (l : List ℕ) → FanList s eastern v l → 0 < length l
        → let e : ℕ = furthest s.vertices s.edges eastern false l in
        (e < edge_count s) × Lowest s (line_beside eastern (x_of s v) 1) (λ f. end_of s eastern f ≡ v) e
    bottom_lowest eastern v l k h =
        let r = furthest_is_end s rule2 rule4 eastern false v l k h in
        (r.0.0, (r.0.1, λ f b c. r.1 f (b, c)))

    agree_fans : (western eastern : List ℕ) (v : ℕ) → FanList s false v western → FanList s true v eastern
        → Means (tops_and_bottoms s v) → Means (fans_tied s.vertices s.edges western eastern)
    agree_fans western eastern v a b m d =
        let tw = top_highest false v western a d.0 in
        let te = top_highest true v eastern b d.1 in
        let bw = bottom_lowest false v western a d.0 in
        let be = bottom_lowest true v eastern b d.1 in
        ((m _ tw.0 _ te.0).0 (tw.1, te.1), (m _ bw.0 _ be.0).1 (bw.1, be.1))

    -- rule 5 at a vertex, but for the margin, is decided on lists of its fans
    pub vertex_tied_decides : (v : ℕ) (western eastern : List ℕ) → FanList s false v western → FanList s true v eastern
        → holds (vertex_tied s.vertices s.edges western eastern) ≡ holds (both (both (western_names s v) (eastern_names s v)) (tops_and_bottoms s v))
    vertex_tied_decides v western eastern a b =
        same_holds (vertex_tied s.vertices s.edges western eastern) (both (both (western_names s v) (eastern_names s v)) (tops_and_bottoms s v))
        (λ t. ((tied_agrees false v western a t.0.0, tied_agrees true v eastern b t.0.1), fans_agree western eastern v a b t.1))
        (λ m. ((agrees_tied false v western a m.0.0, agrees_tied true v eastern b m.0.1), agree_fans western eastern v a b m.1))

    -- rule 5 between two vertices of the margin is decided on lists of their eastern fans
    pub margin_tied_decides : (v u : ℕ) (under over : List ℕ) → FanList s true v under → FanList s true u over
        → holds (margin_tied s.vertices s.edges under over) ≡ holds (top_meets_bottom v u)
    margin_tied_decides v u under over a b = same_holds (margin_tied s.vertices s.edges under over) (top_meets_bottom v u) there back
      where
        there : Means (margin_tied s.vertices s.edges under over) → Means (top_meets_bottom v u)
        there t e he f hf p =
            ends_are_furthest s rule2 rule4 (λ i j. above_of s i ≡ below_of s j) true true true false v u under over a b t e f
            ((he, p.0.0), λ g c. p.0.1 g c.0 c.1) ((hf, p.1.0), λ g c. p.1.1 g c.0 c.1)

        back : Means (top_meets_bottom v u) → Means (margin_tied s.vertices s.edges under over)
        back m d =
            let t = top_highest true v under a d.0 in
            let l = bottom_lowest true u over b d.1 in
            m _ t.0 _ l.0 (t.1, l.1)
