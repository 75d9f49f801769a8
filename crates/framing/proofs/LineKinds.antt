-- Laws of the kinds that lines are to be of.
use mathlib.Core.Path.{◌≡◌, refl}
use mathlib.Core.Bool.{Bool, true, false}
use Prim.Native.Nat.{ℕ, ◌+◌, ◌<◌, ◌≤◌}
use native.Mathlib.Omega.{arith}
use borrow.Author.Tests.{le-leb, lt-leb, ne_eqb}
use lib.Dec.{leb, eqb}
use Rattle.frames.specs.Pages.{kind_in_order}

module _ (vertices edges k : ℕ) where
  -- the kind from the tests that tell it
  kind_of : {a b c : Bool} → eqb k 0 ≡ a → leb k vertices ≡ b → leb k (vertices + edges) ≡ c
      → kind_in_order vertices edges k ≡ elim a [ true ↦ 0 | false ↦ elim b [ true ↦ 1 | false ↦ elim c [ true ↦ 2 | false ↦ 3 ] ] ]
  kind_of p q r = λ i. elim (p i) [ true ↦ 0 | false ↦ elim (q i) [ true ↦ 1 | false ↦ elim (r i) [ true ↦ 2 | false ↦ 3 ] ] ]

  -- a line past the head and among the vertices
  pub kind_vertex : 0 < k → k ≤ vertices → kind_in_order vertices edges k ≡ 1
  kind_vertex h v = kind_of (ne_eqb k 0 (λ e. omega arith)) (le-leb k vertices v) refl

  -- a line past the vertices and among the edges
  pub kind_edge : vertices < k → k ≤ vertices + edges → kind_in_order vertices edges k ≡ 2
  kind_edge v e = kind_of (ne_eqb k 0 (λ z. omega arith)) (lt-leb k vertices v) (le-leb k (vertices + edges) e)

  -- a line past the edges
  pub kind_point : vertices + edges < k → kind_in_order vertices edges k ≡ 3
  kind_point e = kind_of (ne_eqb k 0 (λ z. omega arith)) (lt-leb k vertices (omega arith)) (lt-leb k (vertices + edges) e)
