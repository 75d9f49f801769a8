-- The order of vertices along which repeated points are looked for: document 02, P3.
use Rattle.std.specs.Prelude.{◌≡◌, List, ◌⊎◌, ℕ, ◌<◌, ℤ, length, get_or}
use Rattle.subdivision.specs.Sheet.{vertex_x, vertex_y}

-- vertex u comes strictly before vertex v: by x, then by y, then by number
abbrev pub PointBefore : List ℤ → ℕ → ℕ → Type 0
PointBefore vertices u v =
    (vertex_x vertices u < vertex_x vertices v) ⊎ ((vertex_x vertices u ≡ vertex_x vertices v) × ((vertex_y vertices u < vertex_y vertices v) ⊎ ((vertex_y vertices u ≡ vertex_y vertices v) × (u < v))))

-- every vertex of an order comes strictly before every later one
abbrev pub ByPoint : List ℤ → List ℕ → Type 0
ByPoint vertices order = (i j : ℕ) → i < j → j < length order → PointBefore vertices (get_or order i 0) (get_or order j 0)
