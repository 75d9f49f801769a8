-- The edges that cover an abscissa are those of one column beside it.
use mathlib.Core.Path.{◌≡◌}
use mathlib.Core.Bool.{Bool, true, false}
use mathlib.Core.Logic.{inl, inr, ⊎_elim, ◌↔◌}
use Prim.Native.Nat.{ℕ, suc, ◌+◌, ◌*◌, ◌-◌, ◌<◌, ◌≤◌}
use native.Mathlib.Decide.{dec_lt}
use native.Mathlib.Nat.{le_refl, eq-or-lt_of_le}
use native.Mathlib.Omega.{arith}
use borrow.Author.Tests.{lt-ltb, le-ltb}
use Rattle.subdivision.specs.Formula.{Formula, Means}
use Rattle.subdivision.specs.Sheet.{Sheet, west_margin, east_margin, edge_count, x_of, west_of, east_of, segment}
use Rattle.subdivision.specs.Lines.{covers, covers_west}
use Rattle.subdivision.specs.Accepted.{Accepted}
use Rattle.subdivision.specs.Reading.{reading_line}
use Rattle.subdivision.specs.Placed.{Covers, CoversWest}
use Rattle.theory.proofs.ColumnFans.{fan_side}

-- the edges with a cover of the abscissa x are those that cross a column beside it, and a line is the column's half line
pub record SideView (s : Sheet) (x : ℕ) (cover : ℕ → Formula) (line : ℕ) : Type 0 where
  pub column : ℕ
  pub inside : (west_margin s ≤ column) × (column < east_margin s)
  pub beside : (column ≤ x) × (x ≤ suc column)
  pub half_line : line ≡ 2 * column + 1
  pub crosses : (e : ℕ) → e < edge_count s → Means (cover e) ↔ ((x_of s (west_of s e) ≤ column) × (column < x_of s (east_of s e)))

module _ (s : Sheet) where
  -- what is so of every column between the margins with each of its two abscissas is so of a view's column with the abscissa viewed
  pub by_view : (P : ℕ → ℕ → Type 0) → ((eastern : Bool) (c : ℕ) → west_margin s ≤ c → c < east_margin s → P c (fan_side eastern c))
      → {x line : ℕ} {cover : ℕ → Formula} (v : SideView s x cover line) → P v.column x
  by_view P f {x} v =
      ⊎_elim
      (λ (i : v.column ≡ x). rw (← i) (f true v.column v.inside.0 v.inside.1))
      (λ (l : v.column < x). let i : x ≡ suc v.column = omega (arith, v.beside.1) in rw i (f false v.column v.inside.0 v.inside.1))
      (eq-or-lt_of_le v.beside.0)

  -- the western reading views the column on the west
  pub view_west : (x : ℕ) → west_margin s < x → x ≤ east_margin s → SideView s x (λ e. covers_west (segment s e) x) (2 * x - 1)
  view_west x l h =
      record {
        column = x - 1;
        inside = (omega arith, omega arith);
        beside = (omega arith, omega arith);
        half_line = omega arith;
        crosses = λ e b. (λ c. (omega (arith, c.0), omega (arith, c.1)), λ i. (omega (arith, i.0), omega (arith, i.1)));
      }

  module _ (a : Accepted s) (x : ℕ) where
    -- before E, the edges that cover x are those that cross the column on the east
    covers_east : x < east_margin s → (e : ℕ) → Covers s x e → (x_of s (west_of s e) ≤ x) × (x < x_of s (east_of s e))
    covers_east h e (inl i) = i
    covers_east h e (inr i) = absurd (omega (arith, i.0))

    -- at E, the edges that cover x are those with the western reading's cover
    covers_margin : x ≡ east_margin s → (e : ℕ) → e < edge_count s → Covers s x e ↔ CoversWest s x e
    covers_margin h e b = (there, λ i. inr (h, omega (arith, i.1, ends)))
      where
        ends : x_of s (east_of s e) ≤ east_margin s
        ends = (a.one.0 (east_of s e) (a.two.0 e b).0.1).1.1

        there : Covers s x e → CoversWest s x e
        there (inl i) = absurd (omega (arith, i.1, ends))
        there (inr i) = (omega (arith, a.two.1.0 e b, i.1), omega (arith, i.1))

    -- the plain reading views the column on the east, and at E the one on the west
    pub view_plain : west_margin s ≤ x → x ≤ east_margin s → SideView s x (λ e. covers (east_margin s) (segment s e) x) (reading_line s x)
    view_plain l h = go (dec_lt x (east_margin s))
      where
        at_margin : SideView s x (λ e. covers_west (segment s e) x) (2 * x - 1) → x ≡ east_margin s
            → SideView s x (λ e. covers (east_margin s) (segment s e) x) (reading_line s x)
        at_margin v q =
            record {
              column = v.column;
              inside = v.inside;
              beside = v.beside;
              half_line = rw (le-ltb x (east_margin s) (omega arith), reading_line) v.half_line;
              crosses = λ e b. (λ c. (v.crosses e b).0 ((covers_margin q e b).0 c), λ i. (covers_margin q e b).1 ((v.crosses e b).1 i));
            }

        go : Dec (x < east_margin s) → SideView s x (λ e. covers (east_margin s) (segment s e) x) (reading_line s x)
        go (yes m) =
            record {
              column = x;
              inside = (l, m);
              beside = (le_refl x, omega arith);
              half_line = rw (lt-ltb x (east_margin s) m, reading_line);
              crosses = λ e b. (covers_east m e, λ i. inl i);
            }
        go (no m) = at_margin (view_west x (omega (arith, a.margins.1)) h) (omega arith)
