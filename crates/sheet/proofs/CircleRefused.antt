-- Refusal 13: where the line leaves a zone, some zone is on a circle, and the lowest is named.
use Rattle.std.specs.Prelude.{◌≡◌, not, List, [], ◌∷◌, ℕ, ◌<◌, Option, Some, None}
use Rattle.std.proofs.Common.{sym, ap, ◌∙◌, arith}
use Rattle.subdivision.specs.Results.{Verdict, passed, refused}
use Rattle.subdivision.specs.Formula.{holds}
use Rattle.subdivision.specs.Lists.{put}
use Rattle.subdivision.specs.Lowest.{lowest, first}
use Rattle.subdivision.specs.Sheet.{Sheet, edge_count, zone_count, above_of, below_of}
use Rattle.subdivision.specs.ZoneLine.{is_in, zone_line, on_circle}
use Rattle.subdivision.specs.Refusals.{judged, circle_refusal}
use Rattle.theory.proofs.Circles.{judged_circle_kept, judged_circle_broken, some_on_circle, circle_of_edges}
use Rattle.theory.proofs.Decide.{held}
use Rattle.theory.proofs.Lowest.{lowest_at_most, found_below, first_some, first_none}
use Rattle.theory.proofs.ZoneLine.{line_of_edges}
use Rattle.line.specs.Waiting.{zones_of}
use Rattle.sheet.specs.Judgement.{line_left, line_after, refuse}

module _ (s : Sheet) (named : (e : ℕ) → e < edge_count s → (above_of s e < zone_count s) × (below_of s e < zone_count s)) where
  -- the zones and edges of the sheet
  abbrev z : Sheet
  z = zones_of s.edges s.zones

  same_line : zone_line z ≡ zone_line s
  same_line = sym (line_of_edges s.west s.east s.vertices s.edges s.zones)

  -- the look for the lowest zone left, of the sheet itself
  left_of_sheet : (left : Option ℕ) → left ≡ first (λ k. not (holds (is_in k (zone_line z)))) (zone_count s) → left ≡ first (λ k. not (holds (is_in k (zone_line s)))) (zone_count s)
  left_of_sheet left e = e ∙ (λ i. first (λ k. not (holds (is_in k (same_line i)))) (zone_count s))

  module _ (left : Option ℕ) (looked : left ≡ first (λ k. not (holds (is_in k (zone_line z)))) (zone_count s)) where
    -- a zone left is refused by the lowest on a circle
    pub circle_refused : (k : ℕ) → left ≡ Some k → (at : Option ℕ) → at ≡ first (λ c. holds (on_circle z c)) (zone_count s)
        → refuse 13 at ≡ refused 13 (lowest (λ c. holds (on_circle s c)) (zone_count s))
    circle_refused k e at scan =
        let f = first_some (λ k. not (holds (is_in k (zone_line s)))) (zone_count s) k (sym (left_of_sheet left looked) ∙ e) in
        let c = some_on_circle s named (omega (arith, f.0, f.1)) in
        let b : lowest (λ c. holds (on_circle s c)) (zone_count s) < zone_count s = omega (arith, lowest_at_most (λ c. holds (on_circle s c)) (zone_count s) c.0 (held (on_circle s c.0) c.2), c.1) in
        ap (refuse 13) (scan ∙ sym (λ i. first (λ c. holds (circle_of_edges s.west s.east s.vertices s.edges s.zones c i)) (zone_count s)) ∙ found_below (zone_count s) (lowest (λ c. holds (on_circle s c)) (zone_count s)) b)

    pub circle_judged : (k : ℕ) → left ≡ Some k → refused 13 (lowest (λ c. holds (on_circle s c)) (zone_count s)) ≡ judged (circle_refusal s ∷ [])
    circle_judged k e =
        let f = first_some (λ k. not (holds (is_in k (zone_line s)))) (zone_count s) k (sym (left_of_sheet left looked) ∙ e) in
        sym (judged_circle_broken s named (omega (arith, f.0, f.1)))

    -- with none left the judgement passes
    pub circle_passed : left ≡ None → judged (circle_refusal s ∷ []) ≡ passed
    circle_passed e = judged_circle_kept s named (first_none (λ k. not (holds (is_in k (zone_line s)))) (zone_count s) (sym (left_of_sheet left looked) ∙ e))

  -- the lent line afterwards, where a zone is left and where none is
  pub line_unwritten : (left : Option ℕ) (k : ℕ) (lent now : List ℕ) → left ≡ Some k → now ≡ line_after z left lent → (v : Verdict) (item : ℕ) → v ≡ refused 13 item → now ≡ line_left s v lent
  line_unwritten left k lent now e w v item p = w ∙ ap (λ l. line_after z l lent) e ∙ sym (ap (λ u. line_left s u lent) p)

  pub line_written : (left : Option ℕ) (lent now : List ℕ) → left ≡ None → now ≡ line_after z left lent → now ≡ put (zone_line s) lent
  line_written left lent now e w = w ∙ ap (λ l. line_after z l lent) e ∙ (λ i. put (same_line i) lent)
