-- Edges in columns, by their heights alone: what rules 1 to 5 come to on the half lines and at the abscissas. No sheet is mentioned here.
use mathlib.Core.Path.{◌≡◌}
use Prim.Native.Nat.{ℕ, suc, ◌<◌, ◌≤◌}

-- edges in columns between two margins. Column x is the half line between the abscissas x and x + 1. Edge e runs from one abscissa to
-- another; `whole x e` is its height at the abscissa x, `half x e` that on the half line of column x, and no height is above `cap`
pub record Drawing : Type 0 where
  pub count : ℕ
  pub west : ℕ
  pub east : ℕ
  pub from : ℕ → ℕ
  pub to : ℕ → ℕ
  pub whole : ℕ → ℕ → ℕ
  pub half : ℕ → ℕ → ℕ
  pub cap : ℕ
  pub above : ℕ → ℕ
  pub below : ℕ → ℕ

module _ (d : Drawing) where
  -- edge e crosses column x
  abbrev pub InColumn : ℕ → ℕ → Type 0
  InColumn x e = (e < d.count) × ((d.from e ≤ x) × (x < d.to e))

  -- heights h rise, weakly, with those on the half line of column c
  abbrev pub Rises : ℕ → (ℕ → ℕ) → Type 0
  Rises c h = (e f : ℕ) → InColumn c e → InColumn c f → d.half c e ≤ d.half c f → h e ≤ h f

  -- edge f is the next one up from edge e in column x
  abbrev pub NextInColumn : ℕ → ℕ → ℕ → Type 0
  NextInColumn x e f =
      (InColumn x e × InColumn x f)
      × ((d.half x e < d.half x f) × ((g : ℕ) → InColumn x g → d.half x e < d.half x g → d.half x g < d.half x f → ⊥))

  -- of the edges in column c that pass where edge e does, by the heights h at one of its abscissas, e is the highest
  abbrev pub TopThere : ℕ → (ℕ → ℕ) → ℕ → Type 0
  TopThere c h e = InColumn c e × ((g : ℕ) → InColumn c g → h g ≡ h e → d.half c g ≤ d.half c e)

  -- of the edges in column c that pass where edge e does, e is the lowest
  abbrev pub BottomThere : ℕ → (ℕ → ℕ) → ℕ → Type 0
  BottomThere c h e = InColumn c e × ((g : ℕ) → InColumn c g → h g ≡ h e → d.half c e ≤ d.half c g)

  -- of the edges in column c whose height h is under a level, e is the highest
  abbrev pub HighestUnder : ℕ → (ℕ → ℕ) → ℕ → ℕ → Type 0
  HighestUnder c h level e = (InColumn c e × (h e < level)) × ((g : ℕ) → InColumn c g → h g < level → d.half c g ≤ d.half c e)

  -- of the edges in column c whose height h is over a level, e is the lowest
  abbrev pub LowestOver : ℕ → (ℕ → ℕ) → ℕ → ℕ → Type 0
  LowestOver c h level e = (InColumn c e × (level < h e)) × ((g : ℕ) → InColumn c g → level < h g → d.half c e ≤ d.half c g)

  -- e is the top edge of column c
  abbrev pub TopOf : ℕ → ℕ → Type 0
  TopOf c e = InColumn c e × ((g : ℕ) → InColumn c g → d.half c g ≤ d.half c e)

  -- e is the bottom edge of column c
  abbrev pub BottomOf : ℕ → ℕ → Type 0
  BottomOf c e = InColumn c e × ((g : ℕ) → InColumn c g → d.half c e ≤ d.half c g)

  -- what the rules come to: edges stay between the margins; two of a column are apart on its half line, and in the same order, weakly, at
  -- both its abscissas; each edge is carried on over an abscissa; and names agree where edges meet
  pub record Kept : Type 0 where
    pub inside : (e : ℕ) → e < d.count → ((d.west ≤ d.from e) × (d.from e < d.to e)) × (d.to e ≤ d.east)
    pub capped : (x e : ℕ) → InColumn x e → ((d.whole x e ≤ d.cap) × (d.whole (suc x) e ≤ d.cap)) × (d.half x e ≤ d.cap)
    pub apart : (x e f : ℕ) → InColumn x e → InColumn x f → d.half x e ≡ d.half x f → e ≡ f
    pub near : (x : ℕ) → Rises x (d.whole x)
    pub far : (x : ℕ) → Rises x (d.whole (suc x))
    -- rule 3: over an abscissa strictly between the margins each edge is carried on, to the east and to the west
    pub onward : (x e : ℕ) → suc x < d.east → InColumn x e → (f : ℕ) × InColumn (suc x) f × (d.whole (suc x) f ≡ d.whole (suc x) e)
    pub back : (x e : ℕ) → d.west ≤ x → InColumn (suc x) e → (f : ℕ) × InColumn x f × (d.whole (suc x) f ≡ d.whole (suc x) e)
    -- rule 5, the eastern fan
    pub fork : (x e f : ℕ) → NextInColumn x e f → d.whole x e ≡ d.whole x f → d.above e ≡ d.below f
    -- rule 5, the margin
    pub margin : (e f : ℕ) → NextInColumn d.west e f → d.whole d.west e < d.whole d.west f → d.above e ≡ d.below f
    -- rule 5, tops and bottoms
    pub tops : (x e f : ℕ) → TopThere x (d.whole (suc x)) e → TopThere (suc x) (d.whole (suc x)) f → d.whole (suc x) e ≡ d.whole (suc x) f → d.above e ≡ d.above f
    pub bottoms : (x e f : ℕ) → BottomThere x (d.whole (suc x)) e → BottomThere (suc x) (d.whole (suc x)) f → d.whole (suc x) e ≡ d.whole (suc x) f → d.below e ≡ d.below f
