-- What it is that no two edges of a sheet cross, by their heights to the common scale.
use mathlib.Core.Path.{◌≡◌}
use mathlib.Core.Logic.{◌⊎◌}
use Prim.Native.Nat.{ℕ, ◌+◌, ◌*◌, ◌<◌, ◌≤◌}
use Rattle.subdivision.specs.Sheet.{Sheet, vertex_count, edge_count, x_of, west_of, east_of}
use Rattle.theory.proofs.Scale.{scaled}

module _ (s : Sheet) where
  -- edge e reaches the abscissa x
  abbrev pub Reaches : ℕ → ℕ → Type 0
  Reaches x e = (e < edge_count s) × ((x_of s (west_of s e) ≤ x) × (x ≤ x_of s (east_of s e)))

  -- edge e crosses the half line x + 1/2
  abbrev pub Crosses : ℕ → ℕ → Type 0
  Crosses x e = (e < edge_count s) × ((x_of s (west_of s e) ≤ x) × (x < x_of s (east_of s e)))

  -- vertex v is an end of edge e
  abbrev pub IsEnd : ℕ → ℕ → Type 0
  IsEnd v e = (west_of s e ≡ v) ⊎ (east_of s e ≡ v)

  -- no two edges cross: on a half line they are apart, at its two abscissas they stand in the same order, weakly, and where they meet on an
  -- abscissa they have a common end
  pub record NoCrossing : Type 0 where
    pub apart : (x e f : ℕ) → Crosses x e → Crosses x f → scaled s (2 * x + 1) e ≡ scaled s (2 * x + 1) f → e ≡ f
    pub near : (x e f : ℕ) → Crosses x e → Crosses x f → scaled s (2 * x + 1) e ≤ scaled s (2 * x + 1) f → scaled s (2 * x) e ≤ scaled s (2 * x) f
    pub far : (x e f : ℕ) → Crosses x e → Crosses x f → scaled s (2 * x + 1) e ≤ scaled s (2 * x + 1) f → scaled s (2 * (x + 1)) e ≤ scaled s (2 * (x + 1)) f
    pub meet : (x e f : ℕ) → Reaches x e → Reaches x f → scaled s (2 * x) e ≡ scaled s (2 * x) f
        → (e ≡ f) ⊎ ((v : ℕ) × (v < vertex_count s) × (x_of s v ≡ x) × (IsEnd v e × IsEnd v f))
