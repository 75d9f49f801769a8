-- The descent: document 01, "Index and descent", second and third paragraph, and refusal 22. Points are shifted.
use Rattle.std.specs.Prelude.{Bool, true, false, List, [], ◌∷◌, ◌++◌, ℕ, zero, suc, ◌+◌, ◌*◌, ◌-◌, ◌/◌, leb, ltb, get_or, Option, Some, None}
use Rattle.subdivision.specs.declared.Answer.{Answer}
use Rattle.subdivision.specs.declared.Answer.TheVariants.{Vertex, Edge, Zone}
use Rattle.subdivision.specs.declared.Look.{Look}
use Rattle.subdivision.specs.declared.Look.TheVariants.{Faulty, West, Covering, Beyond}
use Rattle.subdivision.specs.declared.Probed.{Probed}
use Rattle.subdivision.specs.declared.Side.TheVariants.{Below, On, Above}
use Rattle.subdivision.specs.Formula.{Formula, is_less, is_at_most, both, not_so, holds}
use Rattle.subdivision.specs.Dyadic.{top_bit, left_son, right_son}
use Rattle.subdivision.specs.Sheet.{Sheet, east_margin, edge_count, zone_count, west_of, east_of, above_of, below_of, segment}
use Rattle.subdivision.specs.Lines.{covers, side_at}
use Rattle.subdivision.specs.Limits.{Limits, limits}
use Rattle.subdivision.specs.Rules.{vertex_inside_under, edge_names, edge_runs}
use Rattle.subdivision.specs.Reading.{is_vertex}
use Rattle.subdivision.specs.Index.{place_of, zone_at, start_of, entry_at}
use Rattle.subdivision.specs.Layout.{place_word, zone_word, start_word, entry_word}

-- the look-ups that a descent reads, whether what they give is judged as refusal 22 says, and under which limits
pub record LookUps : Type 0 where
  pub place : ℕ → ℕ
  pub zone : ℕ → ℕ
  pub start : ℕ → ℕ
  pub entry : ℕ → ℕ
  pub judging : Bool
  pub limits : Limits

-- the state of a descent: the places i and j, the chain k, the edges examined so far in order, and the probes so far
pub record Descent : Type 0 where
  pub i : ℕ
  pub j : ℕ
  pub k : ℕ
  pub trail : List ℕ
  pub probes : ℕ

-- what a turn of the descent leads to
pub data Turn : Type 0 where
  onward : Descent → Turn
  answered : Answer → Descent → Turn
  damaged : Turn

-- a judged look-up breaks what it should keep
abbrev pub breaks : LookUps → Formula → Bool
breaks w kept = elim w.judging [ true ↦ holds (not_so kept) | false ↦ false ]

-- a descent begins at i = 0, j = n - 1, k = the top bit of n - 1
abbrev pub start : Sheet → Descent
start s = record { i = 0; j = zone_count s - 1; k = top_bit (zone_count s - 1); trail = []; probes = 0 }

-- refusal 22, under limits: a probed entry is an edge, and its record, its vertices included, is not at fault under 4, 6 or 7
abbrev pub entry_sound_under : Limits → Sheet → ℕ → Formula
entry_sound_under l s e =
    both (is_less e (edge_count s))
    (both (edge_names s e) (both (both (vertex_inside_under l s (west_of s e)) (vertex_inside_under l s (east_of s e))) (edge_runs s e)))

-- refusal 22: a probed entry is an edge, and its record, its vertices included, is not at fault under 4, 6 or 7
abbrev pub entry_sound : Sheet → ℕ → Formula
entry_sound s e = entry_sound_under limits s e

module _ (s : Sheet) (w : LookUps) where
  -- refusal 22: the start of a chain to be examined and the next start are at most m, and not the wrong way round
  abbrev pub starts_sound : ℕ → Formula
  starts_sound k =
      both (both (is_at_most (w.start k) (edge_count s)) (is_at_most (w.start (k + 1)) (edge_count s))) (is_at_most (w.start k) (w.start (k + 1)))

  -- refusal 22: both places of an examined edge are below n, and place below < k <= place above
  abbrev pub places_sound : ℕ → ℕ → Formula
  places_sound k e =
      both (both (is_less (w.place (below_of s e)) (zone_count s)) (is_less (w.place (above_of s e)) (zone_count s)))
      (both (is_less (w.place (below_of s e)) k) (is_at_most k (w.place (above_of s e))))

  module _ (x : ℕ) where
    -- one look at entry e: x < western x, x beyond the covered part, or otherwise that edge covers
    abbrev pub look : ℕ → Look
    look e =
        elim (breaks w (entry_sound_under w.limits s e)) [
          | true ↦ Faulty
          | false ↦
              elim (ltb x (segment s e).xw) [
                | true ↦ West
                | false ↦
                    elim (holds (covers (east_margin s) (segment s e) x)) [ true ↦ Covering | false ↦ Beyond ]
              ]
        ]

    -- the entries from lo to before hi are probed in the middle, rounded down, within so many probes; each look is one probe
    abbrev pub probe : ℕ → ℕ → ℕ → ℕ → Option Probed
    probe zero lo hi probes = None
    probe (suc fuel) lo hi probes =
        elim (ltb lo hi) [
          | false ↦ None
          | true ↦
              elim (look (w.entry ((lo + hi) / 2))) [
                | Faulty ↦ None
                | West ↦ probe fuel lo ((lo + hi) / 2) (suc probes)
                | Covering ↦ Some (record { edge = w.entry ((lo + hi) / 2); probes = suc probes })
                | Beyond ↦ probe fuel ((lo + hi) / 2 + 1) hi (suc probes)
              ]
        ]

    -- the entries of chain k are probed, with so many probes before
    abbrev pub probe_chain : ℕ → ℕ → Option Probed
    probe_chain k probes = probe (w.start (k + 1)) (w.start k) (w.start (k + 1)) probes

-- on an examined edge the answer is the vertex if the point is one of its ends, else the edge
abbrev pub on_edge : Sheet → ℕ → ℕ → ℕ → Answer
on_edge s x y e =
    elim (holds (is_vertex s x y (west_of s e))) [
      | true ↦ Vertex (west_of s e)
      | false ↦
          elim (holds (is_vertex s x y (east_of s e))) [ true ↦ Vertex (east_of s e) | false ↦ Edge e ]
    ]

-- k goes to another chain
abbrev pub to_chain : Descent → ℕ → Descent
to_chain d k = record { i = d.i; j = d.j; k = k; trail = d.trail; probes = d.probes }

-- edge e is examined, with so many probes so far, and i and j become these
abbrev pub past : Descent → ℕ → ℕ → ℕ → ℕ → Descent
past d e probes i j = record { i = i; j = j; k = d.k; trail = d.trail ++ (e ∷ []); probes = probes }

-- a step that may not make i > j
abbrev pub stepped : LookUps → Descent → Turn
stepped w d = elim (breaks w (is_at_most d.i d.j)) [ true ↦ damaged | false ↦ onward d ]

module _ (s : Sheet) (w : LookUps) (x y : ℕ) where
  -- edge e of chain k is examined, with so many probes so far: above it i becomes the place of its zone above, below it j that of its zone below
  abbrev pub examined : Descent → ℕ → ℕ → Turn
  examined d e probes =
      elim (breaks w (places_sound s w d.k e)) [
        | true ↦ damaged
        | false ↦
            elim (side_at (segment s e) x y) [
              | On ↦ answered (on_edge s x y e) (past d e probes d.i d.j)
              | Above ↦ stepped w (past d e probes (w.place (above_of s e)) d.j)
              | Below ↦ stepped w (past d e probes d.i (w.place (below_of s e)))
            ]
      ]

  -- chain k is examined: its probes, then the edge that covers x
  abbrev pub examine : Descent → Turn
  examine d =
      elim (breaks w (starts_sound s w d.k)) [
        | true ↦ damaged
        | false ↦
            elim (probe_chain s w x d.k d.probes) [ Some p ↦ examined d p.edge p.probes | None ↦ damaged ]
      ]

  -- at i = j the answer is the zone at that place
  abbrev pub arrived : Descent → Turn
  arrived d = elim (breaks w (is_less (w.zone d.i) (zone_count s))) [ true ↦ damaged | false ↦ answered (Zone (w.zone d.i)) d ]

  -- one turn: while i < j, to the left son if k > j, to the right son if k <= i, else chain k is examined
  abbrev pub turn : Descent → Turn
  turn d =
      elim (ltb d.i d.j) [
        | false ↦ arrived d
        | true ↦
            elim (ltb d.j d.k) [
              | true ↦ onward (to_chain d (left_son d.k))
              | false ↦
                  elim (leb d.k d.i) [ true ↦ onward (to_chain d (right_son d.k)) | false ↦ examine d ]
            ]
      ]

  -- so many turns at most
  abbrev pub turns : ℕ → Descent → Turn
  turns zero d = damaged
  turns (suc fuel) d = elim (turn d) [ onward next ↦ turns fuel next | answered a last ↦ answered a last | damaged ↦ damaged ]

  -- the descent from its beginning
  unfoldable pub descent : Turn
  descent = turns (2 * zone_count s) (start s)

-- the look-ups made from the tables alone: nothing is judged
abbrev pub table_look_ups : Sheet → LookUps
table_look_ups s = record { place = place_of s; zone = zone_at s; start = start_of s; entry = entry_at s; judging = false; limits = limits }

-- the look-ups made from the words of a lent index: judged as they are read, under limits
abbrev pub index_look_ups_under : Limits → Sheet → List ℕ → LookUps
index_look_ups_under l s index = record { place = λ z. get_or index (place_word (zone_count s) z) 0; zone = λ p. get_or index (zone_word (zone_count s) p) 0; start = λ k. get_or index (start_word (zone_count s) k) 0; entry = λ t. get_or index (entry_word (zone_count s) t) 0; judging = true; limits = l }

-- the look-ups made from the words of a lent index: judged as they are read
abbrev pub index_look_ups : Sheet → List ℕ → LookUps
index_look_ups s index = index_look_ups_under limits s index

-- the published descent, defined on the tables alone
unfoldable pub published_descent : Sheet → ℕ → ℕ → Turn
published_descent s x y = descent s (table_look_ups s) x y

-- the descent over the words of a lent index, under limits
abbrev pub index_descent_under : Limits → Sheet → List ℕ → ℕ → ℕ → Turn
index_descent_under l s index x y = descent s (index_look_ups_under l s index) x y

-- the descent over the words of a lent index
unfoldable pub index_descent : Sheet → List ℕ → ℕ → ℕ → Turn
index_descent s index x y = index_descent_under limits s index x y
