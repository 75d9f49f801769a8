-- The line of rule 7: the line used places each zone once, each after its zones directly below, exactly when some line does.
use mathlib.Core.Path.{◌≡◌, refl, sym, ap, ◌∙◌}
use mathlib.Core.Bool.{Bool, true, false, not}
use mathlib.Core.List.{List, [], ◌∷◌, ◌++◌}
use mathlib.Core.Logic.{◌⊎◌, ⊎_elim, ◌↔◌}
use Prim.Native.Nat.{ℕ, zero, suc, ◌+◌, ◌<◌, ◌≤◌}
use native.Mathlib.Nat.{le_refl, not-suc-le-zero, add-zero}
use native.Mathlib.Omega.{arith}
use lib.Dec.{ltb}
use lib.IntN.{ℤ, pos}
use lib.ListN.{length, get_or, get_or-append}
use lib.Seq.{get_or-append_seam}
use borrow.Author.Tests.{lt-ltb, ltb-true, not-false}
use Rattle.subdivision.specs.Formula.{Formula, is_equal, implies, not_so, every_below, holds, Means}
use Rattle.subdivision.specs.Sheet.{Sheet, sheet_of, edge_count, zone_count, above_of, below_of}
use Rattle.subdivision.specs.ZoneLine.{position, is_in, InLine, Rule7, is_ready, next_zone, lengthened, line_to, zone_line}
use Rattle.theory.proofs.Decide.{true_or_false, below_suc, means, held, denies, fails, broken_item, broken_implies}
use Rattle.theory.proofs.Lowest.{lowest_passes, lowest_at_most}
use Rattle.theory.proofs.Position.{position_kept, position_last, absent, length_snoc, in_snoc}
use Rattle.theory.proofs.Counting.{count_under, count_all, count_none, none_counted, count_some, count_less}

module _ (s : Sheet) where
  -- zone z is not placed yet
  abbrev pub unplaced : List ℕ → ℕ → Bool
  unplaced l z = holds (not_so (is_in z l))

  -- a part of the line: as many zones are left as places, each placed zone has its zones directly below before it, and at each place stands
  -- a zone that stands there alone
  pub record Part (l : List ℕ) : Type 0 where
    pub rest : count_under (zone_count s) (unplaced l) + length l ≡ zone_count s
    pub rising : (e : ℕ) → e < edge_count s → position (above_of s e) l < length l → position (below_of s e) l < position (above_of s e) l
    pub zone : (i : ℕ) → i < length l → get_or l i 0 < zone_count s
    pub once : (i : ℕ) → i < length l → position (get_or l i 0) l ≡ i

  pub part_empty : Part []
  part_empty =
      record { rest = rw add-zero (count_all (zone_count s) (unplaced []) (λ k h. held (not_so (is_in k [])) (λ l. not-suc-le-zero l))); rising = λ e h l. absurd (not-suc-le-zero l); zone = λ i h. absurd (not-suc-le-zero h); once = λ i h. absurd (not-suc-le-zero h) }

  -- a zone put at the end is one fewer that is left
  pub one_less : (l : List ℕ) (z : ℕ) → z < zone_count s → (position z l < length l → ⊥)
      → count_under (zone_count s) (unplaced l) ≡ suc (count_under (zone_count s) (unplaced (l ++ (z ∷ []))))
  one_less l z h d =
      count_less (zone_count s) (unplaced l) (unplaced (l ++ (z ∷ []))) z h (held (not_so (is_in z l)) d)
      (fails (not_so (is_in z (l ++ (z ∷ [])))) (λ f. f (rw (position_last z l (absent z l d), length_snoc z l) (le_refl (suc (length l))))))
      (λ k b o. same k o)
    where
      same : (k : ℕ) → (k ≡ z → ⊥) → unplaced l k ≡ unplaced (l ++ (z ∷ [])) k
      same k o =
          ⊎_elim
          (λ e. ap not (e ∙ sym (held (is_in k (l ++ (z ∷ []))) (rw (position_kept k l (z ∷ []) (means (is_in k l) e), length_snoc z l) (omega (arith, means (is_in k l) e))))))
          (λ e. ap not (e ∙ sym (fails (is_in k (l ++ (z ∷ []))) (λ i. ⊎_elim (denies (is_in k l) e) o (in_snoc k z l i)))))
          (true_or_false (holds (is_in k l)))

  part_grows : (l : List ℕ) → Part l → Part (lengthened s l)
  unfolding next_zone
  part_grows l p = go (ltb (next_zone s l) (zone_count s)) refl
    where
      grown : (z : ℕ) → z < zone_count s → Means (is_ready s l z) → Part (l ++ (z ∷ []))
      grown z h r =
          record { rest = omega (arith, p.rest, one_less l z h r.0, length_snoc z l); rising = λ e b i. ⊎_elim (old e b) (new e b) (in_snoc (above_of s e) z l i); zone = λ i b. ⊎_elim (last_zone_lem i) (old_zone i) (place i b); once = λ i b. ⊎_elim (last_once i) (old_once i) (place i b) }
        where
          place : (i : ℕ) → i < length (l ++ (z ∷ [])) → (i ≡ length l) ⊎ (i < length l)
          place i b = below_suc (rw length_snoc at b)

          old_entry : (i : ℕ) → i < length l → get_or (l ++ (z ∷ [])) i 0 ≡ get_or l i 0
          old_entry i b = get_or-append l (z ∷ []) 0 i b

          old_zone : (i : ℕ) → i < length l → get_or (l ++ (z ∷ [])) i 0 < zone_count s
          old_zone i b = rw (old_entry i b) (p.zone i b)

          last_zone_lem : (i : ℕ) → i ≡ length l → get_or (l ++ (z ∷ [])) i 0 < zone_count s
          last_zone_lem i e = rw (e, get_or-append_seam l z [] 0) h

          old_once : (i : ℕ) → i < length l → position (get_or (l ++ (z ∷ [])) i 0) (l ++ (z ∷ [])) ≡ i
          old_once i b =
              let there : position (get_or l i 0) l < length l = omega (arith, p.once i b) in
              rw (old_entry i b, position_kept (get_or l i 0) l (z ∷ []) there) (p.once i b)

          last_once : (i : ℕ) → i ≡ length l → position (get_or (l ++ (z ∷ [])) i 0) (l ++ (z ∷ [])) ≡ i
          last_once i e = rw (e, get_or-append_seam l z [] 0) (position_last z l (absent z l r.0))

          old : (e : ℕ) → e < edge_count s → position (above_of s e) l < length l → position (below_of s e) (l ++ (z ∷ [])) < position (above_of s e) (l ++ (z ∷ []))
          old e b i =
              let up : position (below_of s e) l < position (above_of s e) l = p.rising e b i in
              rw (position_kept (above_of s e) l (z ∷ []) i, position_kept (below_of s e) l (z ∷ []) (omega arith)) up

          new : (e : ℕ) → e < edge_count s → above_of s e ≡ z → position (below_of s e) (l ++ (z ∷ [])) < position (above_of s e) (l ++ (z ∷ []))
          new e b i =
              let down : position (below_of s e) l < length l = r.1 e b i in
              rw (i, position_last z l (absent z l r.0), position_kept (below_of s e) l (z ∷ []) down) down

      go : (b : Bool) → ltb (next_zone s l) (zone_count s) ≡ b → Part (elim b [ true ↦ l ++ (next_zone s l ∷ []) | false ↦ l ])
      go true e =
          let h : next_zone s l < zone_count s = ltb-true (next_zone s l) (zone_count s) e in
          grown (next_zone s l) h (means (is_ready s l (next_zone s l)) (lowest_passes (λ z. holds (is_ready s l z)) (zone_count s) h))
      go false e = p

  pub part_to : (p : ℕ) → Part (line_to s p)
  part_to zero = part_empty
  part_to (suc p) = part_grows (line_to s p) (part_to p)

  -- the line used has at most a place for each zone
  pub line_within : length (zone_line s) ≤ zone_count s
  unfolding zone_line
  line_within = omega (arith, (part_to (zone_count s)).rest)

  -- at each place of the line used stands a zone
  pub line_entry_below : (i : ℕ) → i < length (zone_line s) → get_or (zone_line s) i 0 < zone_count s
  unfolding zone_line
  line_entry_below = (part_to (zone_count s)).zone

  -- each zone stands in the line used once
  pub place_of_entry : (i : ℕ) → i < length (zone_line s) → position (get_or (zone_line s) i 0) (zone_line s) ≡ i
  unfolding zone_line
  place_of_entry = (part_to (zone_count s)).once

  -- a line with a place for each zone places every zone
  pub full_places : length (zone_line s) ≡ zone_count s → (z : ℕ) → z < zone_count s → position z (zone_line s) < length (zone_line s)
  unfolding zone_line
  full_places full z h =
      means (is_in z l) (not-false (holds (is_in z l)) (count_none (zone_count s) (unplaced l) none z h))
    where
      l : List ℕ
      l = line_to s (zone_count s)

      none : count_under (zone_count s) (unplaced l) ≡ 0
      none = omega (arith, (part_to (zone_count s)).rest)

  -- a line that places every zone has a place for each
  pub places_full : ((z : ℕ) → z < zone_count s → position z (zone_line s) < length (zone_line s)) → length (zone_line s) ≡ zone_count s
  unfolding zone_line
  places_full holding = omega (arith, none, (part_to (zone_count s)).rest)
    where
      l : List ℕ
      l = line_to s (zone_count s)

      none : count_under (zone_count s) (unplaced l) ≡ 0
      none = none_counted (zone_count s) (unplaced l) (λ z h. ap not (held (is_in z l) (holding z h)))

  -- a line that places every zone is such a line
  pub line_kept : length (zone_line s) ≡ zone_count s → ((e : ℕ) → e < edge_count s → above_of s e < zone_count s) → InLine s (zone_line s)
  unfolding zone_line
  line_kept full named =
      record { long = full; holding = full_places full; rising = λ e h. (part_to (zone_count s)).rising e h (full_places full (above_of s e) (named e h)) }

  -- on a sheet that some line keeps, wherever a zone is left some zone is ready
  some_ready : (k : List ℕ) → InLine s k → ((e : ℕ) → e < edge_count s → below_of s e < zone_count s) → (l : List ℕ)
      → (fuel z : ℕ) → position z k < fuel → z < zone_count s → (position z l < length l → ⊥)
      → (y : ℕ) × (y < zone_count s) × (holds (is_ready s l y) ≡ true)
  some_ready k i named l zero z b h d = absurd (not-suc-le-zero b)
  some_ready k i named l (suc fuel) z b h d =
      ⊎_elim
      (λ e. (z, h, held (is_ready s l z) (d, means (every_below (edge_count s) clause) e)))
      (λ e. down (broken_item (edge_count s) clause e) (some_ready k i named l fuel))
      (true_or_false (holds (every_below (edge_count s) clause)))
    where
      clause : ℕ → Formula
      clause e = implies (is_equal (above_of s e) z) (is_in (below_of s e) l)

      down : (e : ℕ) × (e < edge_count s) × (Means (clause e) → ⊥)
          → ((y : ℕ) → position y k < fuel → y < zone_count s → (position y l < length l → ⊥) → (y : ℕ) × (y < zone_count s) × (holds (is_ready s l y) ≡ true))
          → (y : ℕ) × (y < zone_count s) × (holds (is_ready s l y) ≡ true)
      down f rest =
          let broken = broken_implies (is_equal (above_of s f.0) z) (is_in (below_of s f.0) l) f.2 in
          let up : position (below_of s f.0) k < position z k = rw broken.0 at (i.rising f.0 f.1) in
          rest (below_of s f.0) (omega arith) (named f.0 f.1) broken.1

  -- on a sheet that some line keeps, the line used grows by a place at each turn
  line_grows : (k : List ℕ) → InLine s k → ((e : ℕ) → e < edge_count s → below_of s e < zone_count s) → (p : ℕ) → p ≤ zone_count s → length (line_to s p) ≡ p
  unfolding next_zone
  line_grows k i named zero h = refl
  line_grows k i named (suc p) h = grown (line_grows k i named p (omega arith))
    where
      l : List ℕ
      l = line_to s p

      left : length l ≡ p → (z : ℕ) × (z < zone_count s) × (unplaced l z ≡ true)
      left e = count_some (zone_count s) (unplaced l) (omega (arith, (part_to p).rest))

      ready : length l ≡ p → (y : ℕ) × (y < zone_count s) × (holds (is_ready s l y) ≡ true)
      ready e =
          some_ready k i named l (suc (position (left e).0 k)) (left e).0 (le_refl (suc (position (left e).0 k))) (left e).1 (means (not_so (is_in (left e).0 l)) (left e).2)

      next : length l ≡ p → next_zone s l < zone_count s
      next e = omega (arith, lowest_at_most (λ z. holds (is_ready s l z)) (zone_count s) (ready e).0 (ready e).2, (ready e).1)

      grown : length l ≡ p → length (lengthened s l) ≡ suc p
      grown e = rw (lt-ltb (next_zone s l) (zone_count s) (next e), lengthened) (length_snoc (next_zone s l) l ∙ ap suc e)

  -- rule 7: the line used has every place filled exactly when the zones can be put in a line
  pub line_decides : ((e : ℕ) → e < edge_count s → (above_of s e < zone_count s) × (below_of s e < zone_count s)) → (length (zone_line s) ≡ zone_count s) ↔ Rule7 s
  unfolding zone_line
  line_decides named =
      (λ full. (zone_line s, line_kept full (λ e h. (named e h).0)), λ r. line_grows r.0 r.1 (λ e h. (named e h).1) (zone_count s) (le_refl (zone_count s)))

module _ (west east : ℤ) (vertices : List ℤ) (edges : List ℕ) (zones : ℕ) where
  line_to_of_edges : (p : ℕ) → line_to (sheet_of west east vertices edges zones) p ≡ line_to (sheet_of (pos 0) (pos 0) [] edges zones) p
  unfolding next_zone
  line_to_of_edges zero = refl
  line_to_of_edges (suc p) = ap (lengthened (sheet_of west east vertices edges zones)) (line_to_of_edges p)

  -- the line used follows from the edges and the number of zones alone
  pub line_of_edges : zone_line (sheet_of west east vertices edges zones) ≡ zone_line (sheet_of (pos 0) (pos 0) [] edges zones)
  unfolding zone_line
  line_of_edges = line_to_of_edges zones
