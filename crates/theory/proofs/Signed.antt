-- The limits of P5 are wider than they were: a sheet signed for earlier is opened, read and searched as it was.
use mathlib.Core.Path.{◌≡◌, refl, sym, ap, ◌∙◌}
use mathlib.Core.Bool.{false, false≢true}
use mathlib.Core.List.{List, [], ◌∷◌, ◌++◌}
use mathlib.Core.Logic.{◌⊎◌, inl, inr, ⊎_elim}
use Prim.Native.Nat.{ℕ}
use native.Mathlib.Omega.{arith}
use lib.IntN.{ℤ}
use lib.ListN.{length}
use Rattle.std.specs.Prelude.{Ok, Err}
use Rattle.subdivision.specs.Results.{Verdict, Reply, Search, passed, refused, reply_of, examined_of, probes_of}
use Rattle.subdivision.specs.Limits.{Limits, limits, earlier_limits}
use Rattle.subdivision.specs.Formula.{holds}
use Rattle.subdivision.specs.Lists.{put}
use Rattle.subdivision.specs.Sheet.{Sheet, shifted, west_margin, east_margin, x_of, y_of}
use Rattle.subdivision.specs.Rules.{in_range_under}
use Rattle.subdivision.specs.Refusals.{Refusal, unnamed, judged, limit_refusals_under, room_refusal, trail_room}
use Rattle.subdivision.specs.Reading.{on_sheet_under}
use Rattle.subdivision.specs.Faults.{opening_refusals_under, table_refusals_under}
use Rattle.subdivision.specs.Index.{index_words}
use Rattle.subdivision.specs.Calls.{Opened, Searched, opening_under, opening, reading_under, reading, searching_under, searching}
use Rattle.subdivision.specs.Signed.{InRangeUnder, Within, WasBeyond, OpenedAsSigned, ReadAsSigned, SearchedAsSigned}
use Rattle.theory.proofs.Decide.{fails, decided}
use Rattle.theory.proofs.Judgement.{passed_keeps, refused_first, passed_first, judged_unnamed_broken}
use Rattle.theory.proofs.WithinLimits.{limits_same, tables_same, opened_same, read_same, searched_same}

-- a number in range as it was is in range
wide : (c : ℕ) → InRangeUnder earlier_limits c → InRangeUnder limits c
wide c h = omega (arith, h)

-- the limits are wider than they were
pub wider : (s : Sheet) → Within earlier_limits s → Within limits s
wider s a =
    record {
      vertices = omega (arith, a.vertices);
      edges = omega (arith, a.edges);
      zones = omega (arith, a.zones);
      west = wide (west_margin s) a.west;
      east = wide (east_margin s) a.east;
      inside = λ v h. (wide (x_of s v) (a.inside v h).0, wide (y_of s v) (a.inside v h).1);
    }

-- a sheet that opening passed before P5 was within the limits as they were
pub signed_within : (s : Sheet) (index : List ℕ) → (opening_under earlier_limits s index).verdict ≡ passed → Within earlier_limits s
signed_within s index e =
    let k = passed_keeps lines (go (judged lines) refl e) in
    record { vertices = k.0.1.0.0; edges = k.0.1.0.1; zones = k.0.1.1.1; west = k.1.0.0.0; east = k.1.0.0.1; inside = λ v h. (k.1.1.1.0 v h).0 }
  where
    lines : List Refusal
    lines = opening_refusals_under earlier_limits s (length index)

    -- what opening leaves, from what its lines say
    given : Verdict → Opened
    given v =
        elim v [ Ok u ↦ record { verdict = passed; index = put (index_words s) index } | Err e ↦ record { verdict = Err e; index = index } ]

    go : (v : Verdict) → judged lines ≡ v → (given v).verdict ≡ passed → judged lines ≡ passed
    go (Ok u) p q = p
    go (Err e) p q = absurd (false≢true cc)

module _ (s : Sheet) where
  pub opened_as_signed : (index : List ℕ) → OpenedAsSigned s index (opening s index).verdict (opening s index).index
  unfolding opening
  opened_as_signed index a =
      let same = opened_same s limits earlier_limits (wider s a) a index in
      (ap (λ (o : Opened). o.verdict) same, ap (λ (o : Opened). o.index) same)

  pub read_as_signed : (x y : ℤ) → ReadAsSigned s x y (reading s x y)
  unfolding reading
  read_as_signed x y a = ⊎_elim (λ h. inl (read_same s limits earlier_limits (wider s a) a x y (wide (shifted y) h) h)) beyond (decided (in_range_under earlier_limits (shifted y)))
    where
      beyond : (InRangeUnder earlier_limits (shifted y) → ⊥) → (reading_under limits s x y ≡ reading_under earlier_limits s x y) ⊎ WasBeyond y (reading_under earlier_limits s x y)
      beyond f = go (judged (table_refusals_under earlier_limits s)) refl
        where
          off : holds (on_sheet_under s earlier_limits (shifted x) (shifted y)) ≡ false
          off = fails (on_sheet_under s earlier_limits (shifted x) (shifted y)) (λ o. f o.1)

          go : (v : Verdict) → judged (table_refusals_under earlier_limits s) ≡ v → (reading_under limits s x y ≡ reading_under earlier_limits s x y) ⊎ WasBeyond y (reading_under earlier_limits s x y)
          go (Ok u) e = inr (f, rw (e, off, reading_under))
          go (Err r) e =
              let now : judged (table_refusals_under limits s) ≡ Err r = tables_same s limits earlier_limits (wider s a) a ∙ e in
              inl (rw (now, reading_under) (sym (rw (e, reading_under))))

  pub searched_as_signed : (index : List ℕ) (x y : ℤ) (trail : List ℕ)
      → SearchedAsSigned s index x y trail (searching s index x y trail).found (searching s index x y trail).trail
  unfolding searching
  searched_as_signed index x y trail a =
      ⊎_elim (λ h. inl (alike (searched_same s limits earlier_limits (wider s a) a index x y trail (wide (shifted y) h) h))) beyond (decided (in_range_under earlier_limits (shifted y)))
    where
      before : Searched
      before = searching_under earlier_limits s index x y trail

      Kept : Type 0
      Kept = (((searching_under limits s index x y trail).found ≡ before.found) × ((searching_under limits s index x y trail).trail ≡ before.trail)) ⊎ WasBeyond y (reply_of before.found)

      alike : searching_under limits s index x y trail ≡ before
          → ((searching_under limits s index x y trail).found ≡ before.found) × ((searching_under limits s index x y trail).trail ≡ before.trail)
      alike e = (ap (λ (r : Searched). r.found) e, ap (λ (r : Searched). r.trail) e)

      -- the lines before refusal 20
      first : Limits → List Refusal
      first l = limit_refusals_under l s ++ (room_refusal s (length index) ∷ [])

      -- refusals 20 and 21
      last : Limits → List Refusal
      last l = unnamed 20 (on_sheet_under s l (shifted x) (shifted y)) ∷ unnamed 21 (trail_room s (length trail)) ∷ []

      first_same : judged (first limits) ≡ judged (first earlier_limits)
      first_same =
          limits_same s limits earlier_limits (wider s a) a (room_refusal s (length index) ∷ []) (room_refusal s (length index) ∷ []) refl

      beyond : (InRangeUnder earlier_limits (shifted y) → ⊥) → Kept
      beyond f = go (judged (first earlier_limits)) refl
        where
          off : judged (last earlier_limits) ≡ refused 20 0
          off = judged_unnamed_broken 20 (on_sheet_under s earlier_limits (shifted x) (shifted y)) (unnamed 21 (trail_room s (length trail)) ∷ []) (fails (on_sheet_under s earlier_limits (shifted x) (shifted y)) (λ o. f o.1))

          go : (v : Verdict) → judged (first earlier_limits) ≡ v → Kept
          go (Ok u) e = inr (f, rw (passed_first (first earlier_limits) (last earlier_limits) e ∙ off, searching_under))
          go (Err r) e =
              let was = refused_first (first earlier_limits) (last earlier_limits) r.number r.item e in
              let now = refused_first (first limits) (last limits) r.number r.item (first_same ∙ e) in
              inl (alike (rw (now, searching_under) (sym (rw (was, searching_under)))))
