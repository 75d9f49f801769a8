-- The cases marked (*) in document 01, "The lens sheet", as one table, computed from the definitions that the calls' contracts cite.
use Rattle.std.specs.Prelude.{◌≡◌, refl, List, [], ◌∷◌, map, ℕ, ℤ, pos, negsuc, length}
use Rattle.subdivision.specs.declared.Answer.{Answer}
use Rattle.subdivision.specs.declared.Answer.TheVariants.{Vertex, Edge, Zone}
use Rattle.std.specs.Prelude.{Ok, Err}
use Rattle.subdivision.specs.Results.{Reply, passed, refused, reply_of}
use Rattle.subdivision.specs.Lowest.{lowest}
use Rattle.subdivision.specs.Lists.{tab}
use Rattle.subdivision.specs.Dyadic.{bits, top_bit, low_bit, lca}
use Rattle.subdivision.specs.Order.{in_order}
use Rattle.subdivision.specs.Sheet.{Sheet, shifted}
use Rattle.subdivision.specs.ZoneLine.{next_zone, zone_line}
use Rattle.subdivision.specs.Reading.{first_zone, zone_beneath, plain_reading}
use Rattle.subdivision.specs.Index.{place_of, zone_at, chain_of, eastward, chain, start_of, entry_at, index_words}
use Rattle.subdivision.specs.Lists.{put}
use Rattle.subdivision.specs.Descent.{descent, published_descent, index_descent}
use Rattle.subdivision.specs.Calls.{Searched, opening, reading, searching, search_ended}

-- the lens sheet: W = 0, E = 4, four vertices, four edges, n = 3
unfoldable pub lens : Sheet
lens =
    record { west = pos 0; east = pos 4; vertices = pos 0 ∷ pos 0 ∷ pos 2 ∷ pos 2 ∷ pos 2 ∷ negsuc 1 ∷ pos 4 ∷ pos 0 ∷ []; edges = 0 ∷ 1 ∷ 2 ∷ 1 ∷ 1 ∷ 3 ∷ 2 ∷ 1 ∷ 0 ∷ 2 ∷ 1 ∷ 0 ∷ 2 ∷ 3 ∷ 1 ∷ 0 ∷ []; zones = 3 }

-- its index, whole
unfoldable pub lens_index : List ℕ
lens_index = 0 ∷ 1 ∷ 2 ∷ 0 ∷ 1 ∷ 2 ∷ 0 ∷ 0 ∷ 2 ∷ 4 ∷ 2 ∷ 3 ∷ 0 ∷ 1 ∷ []

-- a point with its answer, trail and probes
pub record Case : Type 0 where
  pub x : ℤ
  pub y : ℤ
  pub answer : Answer
  pub trail : List ℕ
  pub probes : ℕ

-- the seven points of the lens sheet
unfoldable pub lens_cases : List Case
lens_cases =
    record { x = pos 2; y = pos 0; answer = Zone 1; trail = 1 ∷ 3 ∷ []; probes = 2 }
    ∷ record { x = pos 2; y = pos 2; answer = Vertex 1; trail = 1 ∷ []; probes = 1 }
    ∷ record { x = pos 1; y = pos 1; answer = Edge 0; trail = 0 ∷ []; probes = 2 }
    ∷ record { x = pos 4; y = pos 0; answer = Vertex 3; trail = 1 ∷ []; probes = 1 }
    ∷ record { x = pos 0; y = pos 0; answer = Vertex 0; trail = 0 ∷ []; probes = 2 }
    ∷ record { x = pos 1; y = pos 5; answer = Zone 2; trail = 0 ∷ []; probes = 2 }
    ∷ record { x = pos 3; y = negsuc 1; answer = Zone 0; trail = 1 ∷ 3 ∷ []; probes = 2 }
    ∷ []

-- a point's row of the table: the plain reading, the published descent on the tables and the quick search over the index, each over a lent trail
pub record Row : Type 0 where
  pub plain : Reply
  pub published : Searched
  pub quick : Searched

-- the row as the definitions compute it
unfoldable pub computed : List ℕ → Case → Row
computed lent c =
    record { plain = reading lens c.x c.y; published = search_ended (published_descent lens (shifted c.x) (shifted c.y)) lent; quick = searching lens lens_index c.x c.y lent }

-- the answer, trail and probes of document 01
unfoldable pub searched : List ℕ → Case → Searched
searched lent c =
    record { found = Ok (record { answer = c.answer; examined = length c.trail; probes = c.probes }); trail = put c.trail lent }

-- the row as document 01 has it
unfoldable pub expected : List ℕ → Case → Row
expected lent c = record { plain = Ok c.answer; published = searched lent c; quick = searched lent c }

-- the worked table, whatever words w were lent: the lens index from the raw tables, the seven points, the three lca values
pub worked_table :
    (w : ℕ → ℕ) →
    (opening lens (tab w 14) ≡ record { verdict = passed; index = lens_index })
    × (map (computed (tab w 2)) lens_cases ≡ map (expected (tab w 2)) lens_cases)
    × (lca 0 11 ∷ lca 7 9 ∷ lca 9 10 ∷ [] ≡ 8 ∷ 8 ∷ 10 ∷ [])
unfolding lens lens_index lens_cases computed searched expected opening reading searching descent published_descent index_descent place_of zone_at chain_of eastward chain start_of entry_at index_words first_zone zone_beneath plain_reading next_zone zone_line in_order bits top_bit low_bit lca lowest tab
worked_table w = (refl, refl, refl)
