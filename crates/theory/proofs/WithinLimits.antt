-- A sheet that is within two limits is judged, opened, read and searched alike under both.
use mathlib.Core.Path.{◌≡◌, refl, sym, ap, ◌∙◌}
use mathlib.Core.Bool.{Bool, true, false, not}
use mathlib.Core.List.{List, [], ◌∷◌, ◌++◌}
use Prim.Native.Nat.{ℕ, zero, suc, ◌+◌, ◌*◌, ◌%◌, ◌<◌}
use native.Mathlib.Nat.{add-zero}
use native.Mathlib.Omega.{arith}
use lib.IntN.{ℤ}
use lib.ListN.{length, drop}
use lib.Dec.{ltb, leb}
use Rattle.subdivision.specs.Results.{Verdict, Reply, Search, passed, refused, reply_of, examined_of, probes_of, covered}
use Rattle.subdivision.specs.declared.Answer.{Answer}
use Rattle.std.specs.Prelude.{Ok, Err, Option, Some, None}
use Rattle.subdivision.specs.declared.Look.TheVariants.{Faulty, West, Covering, Beyond}
use Rattle.std.specs.Prelude.{Option, Some, None}
use Rattle.subdivision.specs.Limits.{Limits}
use Rattle.subdivision.specs.Formula.{Formula, is_less, is_at_most, is_equal, both, every_under, holds}
use Rattle.subdivision.specs.Lists.{put}
use Rattle.subdivision.specs.Sheet.{Sheet, shifted, west_margin, east_margin, vertex_count, edge_count, zone_count, x_of, y_of, west_of, east_of, segment}
use Rattle.subdivision.specs.Lines.{covers}
use Rattle.subdivision.specs.Rules.{in_range_under, vertex_inside_under, edge_names, edge_runs}
use Rattle.subdivision.specs.Refusals.{Refusal, names, unnamed, for_each, judged, counts_within_under, counts_kept_under, margins_kept_under, limit_refusals_under, room_refusal, rule_refusals_under, trail_room}
use Rattle.subdivision.specs.Reading.{on_sheet_under, plain_reading}
use Rattle.subdivision.specs.Faults.{opening_refusals_under, table_refusals_under, search_refusals_under}
use Rattle.subdivision.specs.Index.{index_words}
use Rattle.subdivision.specs.Descent.{LookUps, Descent, Turn, onward, answered, damaged, breaks, entry_sound_under, starts_sound, look, probe, probe_chain, examined, examine, arrived, turn, turns, start, descent, to_chain, index_look_ups_under, index_descent_under}
use Rattle.subdivision.specs.Dyadic.{left_son, right_son}
use Rattle.subdivision.specs.Calls.{search_refused, search_ended, opening_under, reading_under, searching_under}
use Rattle.subdivision.specs.Signed.{InRangeUnder, Within}
use Rattle.theory.proofs.Decide.{means, held, both_goes_on}
use Rattle.theory.proofs.Judgement.{none_named}
use Rattle.theory.proofs.Lowest.{lowest_same}
use Rattle.theory.proofs.Probes.{probe_same}

-- a second part in the place of another that is kept alike where the first part is
both_same : (p q r : Formula) → (holds p ≡ true → holds q ≡ holds r) → holds (both p q) ≡ holds (both p r)
both_same p q r f = go (holds p) refl
  where
    go : (b : Bool) → holds p ≡ b → ◌≡◌ {A = Bool} (elim b [ true ↦ holds q | false ↦ false ]) (elim b [ true ↦ holds r | false ↦ false ])
    go true e = f e
    go false e = refl

-- a pair of formulas in the place of another, each kept when the other's is
pair_same : (p q r t : Formula) → holds p ≡ holds r → holds q ≡ holds t → holds (both p q) ≡ holds (both r t)
pair_same p q r t e f i = elim (e i) [ true ↦ f i | false ↦ false ]

-- tests that agree below a count agree at every number below it
every_same : (n : ℕ) (test other : ℕ → Bool) → ((k : ℕ) → k < n → test k ≡ other k) → every_under n test ≡ every_under n other
every_same zero test other f = refl
every_same (suc n) test other f =
    let rest = every_same n test other (λ k h. f k (omega arith)) in
    let here = f n (omega arith) in
    (λ i. elim (here i) [ true ↦ rest i | false ↦ false ])

-- a line in the place of another that is kept when it is and names the same item
judged_same : (r q : Refusal) (rs qs : List Refusal) → r.number ≡ q.number → holds r.kept ≡ holds q.kept → names r ≡ names q
    → judged rs ≡ judged qs → judged (r ∷ rs) ≡ judged (q ∷ qs)
judged_same r q rs qs number kept item rest =
    (λ i. elim (kept i) [ true ↦ rest i | false ↦ refused (number i) (item i) ])

-- a line that names nothing in the place of another that is kept when it is
unnamed_same : (number : ℕ) (p q : Formula) (rs qs : List Refusal) → holds p ≡ holds q → judged rs ≡ judged qs
    → judged (unnamed number p ∷ rs) ≡ judged (unnamed number q ∷ qs)
unnamed_same number p q rs qs kept rest =
    judged_same (unnamed number p) (unnamed number q) rs qs refl kept (sym (none_named number p) ∙ none_named number q) rest

-- a line for each item in the place of another with a clause that is kept when its own is
each_same : (number items : ℕ) (p q : ℕ → Formula) (rs : List Refusal) → ((k : ℕ) → k < items → holds (p k) ≡ holds (q k))
    → judged (for_each number items p ∷ rs) ≡ judged (for_each number items q ∷ rs)
each_same number items p q rs f =
    judged_same (for_each number items p) (for_each number items q) rs rs refl (every_same items (λ k. holds (p k)) (λ k. holds (q k)) f)
    (lowest_same (λ k. not (holds (p k))) (λ k. not (holds (q k))) items (λ k h. ap not (f k h))) refl

module _ (s : Sheet) (l m : Limits) (a : Within l s) (b : Within m s) where
  -- a number in range under both limits
  range_same : (c : ℕ) → InRangeUnder l c → InRangeUnder m c → holds (in_range_under l c) ≡ holds (in_range_under m c)
  range_same c h k = held (in_range_under l c) h ∙ sym (held (in_range_under m c) k)

  counts_same : holds (counts_kept_under l s) ≡ holds (counts_kept_under m s)
  counts_same =
      both_same whole (counts_within_under l v e n) (counts_within_under m v e n)
      (λ _. both_goes_on (both (is_at_most v l.vertices) (is_at_most e l.edges)) (both (is_at_most 1 n) (is_at_most n l.zones)) (held (both (is_at_most v l.vertices) (is_at_most e l.edges)) (a.vertices, a.edges))
      ∙ both_same (is_at_most 1 n) (is_at_most n l.zones) (is_at_most n m.zones) (λ _. held (is_at_most n l.zones) a.zones ∙ sym (held (is_at_most n m.zones) b.zones))
      ∙ sym (both_goes_on (both (is_at_most v m.vertices) (is_at_most e m.edges)) (both (is_at_most 1 n) (is_at_most n m.zones)) (held (both (is_at_most v m.vertices) (is_at_most e m.edges)) (b.vertices, b.edges))))
    where
      v : ℕ
      v = vertex_count s

      e : ℕ
      e = edge_count s

      n : ℕ
      n = zone_count s

      -- the tables are whole records
      whole : Formula
      whole = both (is_equal (length s.vertices % 2) 0) (is_equal (length s.edges % 4) 0)

  margins_same : holds (margins_kept_under l s) ≡ holds (margins_kept_under m s)
  margins_same =
      both_goes_on (both (in_range_under l w) (in_range_under l e)) (is_less w e) (held (both (in_range_under l w) (in_range_under l e)) (a.west, a.east))
      ∙ sym (both_goes_on (both (in_range_under m w) (in_range_under m e)) (is_less w e) (held (both (in_range_under m w) (in_range_under m e)) (b.west, b.east)))
    where
      w : ℕ
      w = west_margin s

      e : ℕ
      e = east_margin s

  inside_same : (v : ℕ) → v < vertex_count s → holds (vertex_inside_under l s v) ≡ holds (vertex_inside_under m s v)
  inside_same v h =
      both_goes_on (both (in_range_under l x) (in_range_under l y)) between (held (both (in_range_under l x) (in_range_under l y)) (a.inside v h))
      ∙ sym (both_goes_on (both (in_range_under m x) (in_range_under m y)) between (held (both (in_range_under m x) (in_range_under m y)) (b.inside v h)))
    where
      x : ℕ
      x = x_of s v

      y : ℕ
      y = y_of s v

      -- the vertex is between the margins
      between : Formula
      between = both (is_at_most (west_margin s) x) (is_at_most x (east_margin s))

  -- lines after refusals 1 and 2, in both
  pub limits_same : (rs qs : List Refusal) → judged rs ≡ judged qs → judged (limit_refusals_under l s ++ rs) ≡ judged (limit_refusals_under m s ++ qs)
  limits_same rs qs rest =
      unnamed_same 1 (counts_kept_under l s) (counts_kept_under m s) (unnamed 2 (margins_kept_under l s) ∷ rs) (unnamed 2 (margins_kept_under m s) ∷ qs) counts_same
      (unnamed_same 2 (margins_kept_under l s) (margins_kept_under m s) rs qs margins_same rest)

  rules_same : judged (rule_refusals_under s l) ≡ judged (rule_refusals_under s m)
  rules_same = each_same 4 (vertex_count s) (vertex_inside_under l s) (vertex_inside_under m s) (drop 1 (rule_refusals_under s l)) inside_same

  pub tables_same : judged (table_refusals_under l s) ≡ judged (table_refusals_under m s)
  tables_same = limits_same (rule_refusals_under s l) (rule_refusals_under s m) rules_same

  opening_same : (words : ℕ) → judged (opening_refusals_under l s words) ≡ judged (opening_refusals_under m s words)
  opening_same words =
      limits_same (room_refusal s words ∷ rule_refusals_under s l) (room_refusal s words ∷ rule_refusals_under s m)
      (judged_same (room_refusal s words) (room_refusal s words) (rule_refusals_under s l) (rule_refusals_under s m) refl refl refl rules_same)

  -- a sheet is opened alike under both limits
  pub opened_same : (index : List ℕ) → opening_under l s index ≡ opening_under m s index
  opened_same index i =
      elim (opening_same (length index) i) [ Ok u ↦ record { verdict = passed; index = put (index_words s) index } | Err e ↦ record { verdict = Err e; index = index } ]

  -- a point is on the sheet under both, where its y is in range under both
  on_same : (x y : ℕ) → InRangeUnder l y → InRangeUnder m y → holds (on_sheet_under s l x y) ≡ holds (on_sheet_under s m x y)
  on_same x y h k =
      both_same (both (is_at_most (west_margin s) x) (is_at_most x (east_margin s))) (in_range_under l y) (in_range_under m y) (λ _. range_same y h k)

  -- such a point is read alike under both limits
  pub read_same : (x y : ℤ) → InRangeUnder l (shifted y) → InRangeUnder m (shifted y) → reading_under l s x y ≡ reading_under m s x y
  read_same x y h k i =
      elim (tables_same i) [
        | Err e ↦ Err e
        | Ok u ↦
            elim (on_same (shifted x) (shifted y) h k i) [ false ↦ refused 20 0 | true ↦ Ok (plain_reading s (shifted x) (shifted y)) ]
      ]

  -- a probed entry is judged alike
  entry_same : (e : ℕ) → holds (entry_sound_under l s e) ≡ holds (entry_sound_under m s e)
  entry_same e =
      both_same (is_less e (edge_count s)) (both (edge_names s e) (ends l)) (both (edge_names s e) (ends m))
      (λ _. both_same (edge_names s e) (ends l) (ends m) (λ h. ends_same (means (edge_names s e) h).0))
    where
      -- both ends of the edge are inside, and it runs strictly west to east
      ends : Limits → Formula
      ends k = both (both (vertex_inside_under k s (west_of s e)) (vertex_inside_under k s (east_of s e))) (edge_runs s e)

      ends_same : (west_of s e < vertex_count s) × (east_of s e < vertex_count s) → holds (ends l) ≡ holds (ends m)
      ends_same h =
          pair_same (both (vertex_inside_under l s (west_of s e)) (vertex_inside_under l s (east_of s e))) (edge_runs s e) (both (vertex_inside_under m s (west_of s e)) (vertex_inside_under m s (east_of s e))) (edge_runs s e)
          (pair_same (vertex_inside_under l s (west_of s e)) (vertex_inside_under l s (east_of s e)) (vertex_inside_under m s (west_of s e)) (vertex_inside_under m s (east_of s e)) (inside_same (west_of s e) h.0) (inside_same (east_of s e) h.1)) refl

  module _ (index : List ℕ) (x y : ℕ) where
    -- the words of the index as look-ups, judged under the one limits
    abbrev w : LookUps
    w = index_look_ups_under l s index

    -- and under the other
    abbrev v : LookUps
    v = index_look_ups_under m s index

    look_same : (e : ℕ) → look s w x e ≡ look s v x e
    look_same e i =
        elim (not (entry_same e i)) [
          | true ↦ Faulty
          | false ↦
              elim (ltb x (segment s e).xw) [
                | true ↦ West
                | false ↦
                    elim (holds (covers (east_margin s) (segment s e) x)) [ true ↦ Covering | false ↦ Beyond ]
              ]
        ]

    probed_same : (k p : ℕ) → probe_chain s w x k p ≡ probe_chain s v x k p
    probed_same k p =
        ap (λ (fuel : ℕ). probe s w x fuel (w.start k) (w.start (k + 1)) p) (sym (add-zero (w.start (k + 1))))
        ∙ probe_same s w v x (w.start (k + 1)) 0 (w.start k) (w.start (k + 1)) p (omega arith) (λ t h b. (refl, look_same (w.entry t)))

    examine_same : (d : Descent) → examine s w x y d ≡ examine s v x y d
    examine_same d i =
        elim (breaks w (starts_sound s w d.k)) [
          | true ↦ damaged
          | false ↦
              elim (probed_same d.k d.probes i) [ Some c ↦ examined s w x y d c.edge c.probes | None ↦ damaged ]
        ]

    turn_same : (d : Descent) → turn s w x y d ≡ turn s v x y d
    turn_same d i =
        elim (ltb d.i d.j) [
          | false ↦ arrived s w x y d
          | true ↦
              elim (ltb d.j d.k) [
                | true ↦ onward (to_chain d (left_son d.k))
                | false ↦
                    elim (leb d.k d.i) [ true ↦ onward (to_chain d (right_son d.k)) | false ↦ examine_same d i ]
              ]
        ]

    turns_same : (fuel : ℕ) (d : Descent) → turns s w x y fuel d ≡ turns s v x y fuel d
    turns_same zero d = refl
    turns_same (suc fuel) d = go (turn s w x y d) (turns_same fuel) ∙ (λ i. after v (turn_same d i))
      where
        -- the turns that are left after one
        after : LookUps → Turn → Turn
        after u t = elim t [ onward next ↦ turns s u x y fuel next | answered a last ↦ answered a last | damaged ↦ damaged ]

        go : (t : Turn) → ((next : Descent) → turns s w x y fuel next ≡ turns s v x y fuel next) → after w t ≡ after v t
        go (onward next) rest = rest next
        go (answered a last) rest = refl
        go damaged rest = refl

    descent_same : index_descent_under l s index x y ≡ index_descent_under m s index x y
    unfolding descent
    descent_same = turns_same (2 * zone_count s) (start s)

  -- the lines that the quick search checks first are judged alike, where y is in range under both
  search_lines_same : (words x y places : ℕ) → InRangeUnder l y → InRangeUnder m y
      → judged (search_refusals_under l s words x y places) ≡ judged (search_refusals_under m s words x y places)
  search_lines_same words x y places h k =
      limits_same (room_refusal s words ∷ unnamed 20 (on_sheet_under s l x y) ∷ unnamed 21 (trail_room s places) ∷ []) (room_refusal s words ∷ unnamed 20 (on_sheet_under s m x y) ∷ unnamed 21 (trail_room s places) ∷ [])
      (judged_same (room_refusal s words) (room_refusal s words) (unnamed 20 (on_sheet_under s l x y) ∷ unnamed 21 (trail_room s places) ∷ []) (unnamed 20 (on_sheet_under s m x y) ∷ unnamed 21 (trail_room s places) ∷ []) refl refl refl
      (unnamed_same 20 (on_sheet_under s l x y) (on_sheet_under s m x y) (unnamed 21 (trail_room s places) ∷ []) (unnamed 21 (trail_room s places) ∷ []) (on_same x y h k) refl))

  -- such a point is searched for alike under both limits, whatever the index and the trail hold
  pub searched_same : (index : List ℕ) (x y : ℤ) (trail : List ℕ) → InRangeUnder l (shifted y) → InRangeUnder m (shifted y)
      → searching_under l s index x y trail ≡ searching_under m s index x y trail
  searched_same index x y trail h k i =
      elim (search_lines_same (length index) (shifted x) (shifted y) (length trail) h k i) [
        | Err e ↦ search_refused e.number e.item trail
        | Ok u ↦ search_ended (descent_same index (shifted x) (shifted y) i) trail
      ]
