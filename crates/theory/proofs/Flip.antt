-- A drawing upside down keeps what the drawing keeps, so that a law of tops is also one of bottoms.
use mathlib.Core.Path.{◌≡◌, sym, ap}
use Prim.Native.Nat.{ℕ, suc, ◌-◌, ◌<◌, ◌≤◌}
use native.Mathlib.Omega.{arith}
use Rattle.theory.proofs.Columns.{Drawing, InColumn, NextInColumn, TopThere, BottomThere, HighestUnder, LowestOver, TopOf, BottomOf, Kept}

-- the heights taken from the cap, above and below exchanged
abbrev pub flipped : Drawing → Drawing
flipped d =
    record {
      count = d.count;
      west = d.west;
      east = d.east;
      from = d.from;
      to = d.to;
      whole = λ x e. d.cap - d.whole x e;
      half = λ x e. d.cap - d.half x e;
      cap = d.cap;
      above = d.below;
      below = d.above;
    }

flip_le : (cap p q : ℕ) → p ≤ q → cap - q ≤ cap - p
flip_le cap p q l = omega arith

unflip_le : (cap p q : ℕ) → q ≤ cap → cap - p ≤ cap - q → q ≤ p
unflip_le cap p q b l = omega arith

flip_lt : (cap p q : ℕ) → q ≤ cap → p < q → cap - q < cap - p
flip_lt cap p q b l = omega arith

unflip_lt : (cap p q : ℕ) → cap - p < cap - q → q < p
unflip_lt cap p q l = omega arith

unflip_eq : (cap p q : ℕ) → p ≤ cap → q ≤ cap → cap - p ≡ cap - q → p ≡ q
unflip_eq cap p q b c e = omega arith

module _ (d : Drawing) where
  pub flip_top : (c e : ℕ) → TopOf d c e → BottomOf (flipped d) c e
  flip_top c e t = (t.0, λ g i. flip_le d.cap (d.half c g) (d.half c e) (t.1 g i))

  pub flip_bottom : (c e : ℕ) → BottomOf d c e → TopOf (flipped d) c e
  flip_bottom c e t = (t.0, λ g i. flip_le d.cap (d.half c e) (d.half c g) (t.1 g i))

  -- the lowest over a level is the highest under the level flipped
  pub flip_lowest : (c : ℕ) (h : ℕ → ℕ) (level e : ℕ) → h e ≤ d.cap → LowestOver d c h level e
      → HighestUnder (flipped d) c (λ g. d.cap - h g) (d.cap - level) e
  flip_lowest c h level e b t = (
    (t.0.0, flip_lt d.cap level (h e) b t.0.1),
    λ g i l. flip_le d.cap (d.half c e) (d.half c g) (t.1 g i (unflip_lt d.cap (h g) level l)),
  )

module _ (d : Drawing) (k : Kept d) where
  half_le_cap : (x e : ℕ) → InColumn d x e → d.half x e ≤ d.cap
  half_le_cap x e i = (k.capped x e i).1

  unflip_half : (x e f : ℕ) → InColumn d x f → d.cap - d.half x e ≤ d.cap - d.half x f → d.half x f ≤ d.half x e
  unflip_half x e f i = unflip_le d.cap (d.half x e) (d.half x f) (half_le_cap x f i)

  unflip_next : (x e f : ℕ) → NextInColumn (flipped d) x e f → NextInColumn d x f e
  unflip_next x e f n =
      ((n.0.1, n.0.0), (unflip_lt d.cap (d.half x e) (d.half x f) n.1.0, none_between))
    where
      none_between : (g : ℕ) → InColumn d x g → d.half x f < d.half x g → d.half x g < d.half x e → ⊥
      none_between g i l m =
          n.1.1 g i
          (flip_lt d.cap (d.half x g) (d.half x e) (half_le_cap x e n.0.0) m)
          (flip_lt d.cap (d.half x f) (d.half x g) (half_le_cap x g i) l)

  unflip_top_there : (c : ℕ) (h : ℕ → ℕ) (e : ℕ) → TopThere (flipped d) c (λ g. d.cap - h g) e → BottomThere d c h e
  unflip_top_there c h e t = (t.0, λ g i q. unflip_half c g e t.0 (t.1 g i (ap (λ y. d.cap - y) q)))

  unflip_bottom_there : (c : ℕ) (h : ℕ → ℕ) (e : ℕ) → BottomThere (flipped d) c (λ g. d.cap - h g) e → TopThere d c h e
  unflip_bottom_there c h e t = (t.0, λ g i q. unflip_half c e g i (t.1 g i (ap (λ y. d.cap - y) q)))

  -- two edges of a column that meet at its abscissa when flipped meet there
  unflip_near : (x e f : ℕ) → InColumn d x e → InColumn d x f → d.cap - d.whole x e ≡ d.cap - d.whole x f → d.whole x e ≡ d.whole x f
  unflip_near x e f a b = unflip_eq d.cap (d.whole x e) (d.whole x f) (k.capped x e a).0.0 (k.capped x f b).0.0

  -- an edge of a column and one of the next that meet between the two when flipped meet there
  pub unflip_across : (x e f : ℕ) → InColumn d x e → InColumn d (suc x) f → d.cap - d.whole (suc x) e ≡ d.cap - d.whole (suc x) f
      → d.whole (suc x) e ≡ d.whole (suc x) f
  unflip_across x e f a b = unflip_eq d.cap (d.whole (suc x) e) (d.whole (suc x) f) (k.capped x e a).0.1 (k.capped (suc x) f b).0.0

  -- upside down, a drawing keeps the rules
  pub flip_kept : Kept (flipped d)
  flip_kept =
      record {
        inside = k.inside;
        capped = λ x e i. ((omega arith, omega arith), omega arith);
        apart = λ x e f a b q. k.apart x e f a b (unflip_eq d.cap (d.half x e) (d.half x f) (half_le_cap x e a) (half_le_cap x f b) q);
        near = λ x e f a b l. flip_le d.cap (d.whole x f) (d.whole x e) (k.near x f e b a (unflip_half x e f b l));
        far = λ x e f a b l. flip_le d.cap (d.whole (suc x) f) (d.whole (suc x) e) (k.far x f e b a (unflip_half x e f b l));
        onward = λ x e l i. let f = k.onward x e l i in (f.0, f.1, ap (λ y. d.cap - y) f.2);
        back = λ x e l i. let f = k.back x e l i in (f.0, f.1, ap (λ y. d.cap - y) f.2);
        fork = λ x e f n q. sym (k.fork x f e (unflip_next x e f n) (sym (unflip_near x e f n.0.0 n.0.1 q)));
        margin = λ e f n l. sym (k.margin f e (unflip_next d.west e f n) (unflip_lt d.cap (d.whole d.west e) (d.whole d.west f) l));
        tops = λ x e f t u q. k.bottoms x e f (unflip_top_there x (d.whole (suc x)) e t) (unflip_top_there (suc x) (d.whole (suc x)) f u) (unflip_across x e f t.0 u.0 q);
        bottoms = λ x e f t u q. k.tops x e f (unflip_bottom_there x (d.whole (suc x)) e t) (unflip_bottom_there (suc x) (d.whole (suc x)) f u) (unflip_across x e f t.0 u.0 q);
      }
