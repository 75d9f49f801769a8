-- The order of five vertices, two of them one point, computed; and a wrong order that breaks what is promised of it: with one vertex for each point. The order by y first is in proofs/WorkedOrder.antt.
use Rattle.std.specs.Prelude.{◌≡◌, refl, true, false, List, [], ◌∷◌, ℕ, ◌+◌, ◌*◌, eqb, ℤ, pos, negsuc, length}
use Rattle.std.proofs.Common.{arith}
use Rattle.subdivision.specs.Lists.{tab}
use Rattle.subdivision.specs.Order.{SortedBelow, at_or_before, in_order}
use Rattle.subdivision.specs.Sheet.{vertex_x, vertex_y}

-- the points (1, 5), (-1, 7), (1, -5), (1, 5) and (-1, 0)
unfoldable pub five_points : List ℤ
five_points = pos 1 ∷ pos 5 ∷ negsuc 0 ∷ pos 7 ∷ pos 1 ∷ negsuc 4 ∷ pos 1 ∷ pos 5 ∷ negsuc 0 ∷ pos 0 ∷ []

-- the key of a vertex: its x, and then its y
abbrev by_point : ℕ → ℕ
by_point v = vertex_x five_points v * 4294967296 + vertex_y five_points v

-- its y, and then its x
abbrev pub by_height : ℕ → ℕ
by_height v = vertex_y five_points v * 4294967296 + vertex_x five_points v

-- x put into an order, where a tie drops the later of the two
abbrev insert_once : (ℕ → ℕ) → ℕ → List ℕ → List ℕ
insert_once key x [] = x ∷ []
insert_once key x (y ∷ ys) =
    elim (eqb (key x) (key y)) [ true ↦ x ∷ ys | false ↦ elim (at_or_before key x y) [ true ↦ x ∷ y ∷ ys | false ↦ y ∷ insert_once key x ys ] ]

-- the entries of a list in order, with one for each key
abbrev sorted_once : (ℕ → ℕ) → List ℕ → List ℕ
sorted_once key [] = []
sorted_once key (x ∷ xs) = insert_once key x (sorted_once key xs)

-- from west to east, on one abscissa upwards, at one point by number
pub worked_order : in_order by_point 5 ≡ 4 ∷ 1 ∷ 2 ∷ 0 ∷ 3 ∷ []
unfolding five_points in_order tab
worked_order = refl

-- where a tie drops a vertex, vertex 3 is missing
tie_dropped : sorted_once by_point (tab (λ k. k) 5) ≡ 4 ∷ 1 ∷ 2 ∷ 0 ∷ []
unfolding five_points tab
tie_dropped = refl

-- and the list does not hold each of the five
pub tie_dropped_breaks : SortedBelow by_point 5 (sorted_once by_point (tab (λ k. k) 5)) → ⊥
tie_dropped_breaks s = let short : length {A = ℕ} (4 ∷ 1 ∷ 2 ∷ 0 ∷ []) ≡ 5 = rw tie_dropped at s.long in omega arith
