-- Laws of where a line ends, and of what stands at a place, case by case.
use mathlib.Core.Path.{◌≡◌, refl, ap, ◌∙◌}
use mathlib.Core.Bool.{Bool, true, false}
use mathlib.Core.List.{List}
use Prim.Native.Nat.{ℕ, suc, ◌+◌, ◌-◌, ◌<◌, ◌≤◌}
use native.Mathlib.Omega.{arith}
use borrow.Author.Tests.{ltb-true, ltb-false, eqb-true, lt-ltb, le-ltb, eq-eqb, ne_eqb}
use lib.Dec.{eqb, ltb}
use lib.ListN.{length, get_or}
use Rattle.subdivision.specs.Formula.{holds, Means}
use Rattle.frames.specs.declared.Line.{Line}
use Rattle.frames.specs.declared.Line.TheVariants.{Frame, Malformed, Unfinished, End}
use Rattle.frames.specs.Lines.{newline, line_end, kind_at, is_frame, line_at}
use Rattle.theory.proofs.Decide.{means, denies}
use Rattle.theory.proofs.Lowest.{lowest_from_end, lowest_from_on, lowest_from_passes, lowest_from_first}

module _ (page : List ℕ) where
  -- a byte is the newline
  abbrev is_newline : ℕ → Bool
  is_newline i = eqb (get_or page i 0) newline

  -- past the page's end there is no newline
  pub line_end_past : (at : ℕ) → length page ≤ at → line_end page at ≡ at
  unfolding line_end
  line_end_past at h = lowest_from_end is_newline (length page) at h

  -- a line ends at the first newline from its place on
  pub line_end_first : (at k : ℕ) → at + k < length page → ((i : ℕ) → i < k → get_or page (at + i) 0 ≡ newline → ⊥)
      → get_or page (at + k) 0 ≡ newline → line_end page at ≡ at + k
  unfolding line_end
  line_end_first at k h before e =
      lowest_from_first is_newline (length page) at k h
      (λ i l. ne_eqb (get_or page (at + i) 0) newline (before i l)) (eq-eqb (get_or page (at + k) 0) newline e)

  -- what stands at a place, from the three tests that tell
  abbrev line_of : Bool → Bool → Bool → ℕ → Line
  line_of whole frame some at =
      elim whole [ true ↦ elim frame [ true ↦ Frame (kind_at page at) (suc (line_end page at)) | false ↦ Malformed ] | false ↦ elim some [ true ↦ Unfinished | false ↦ End ] ]

  line_of_lem : (at : ℕ) {a b c : Bool} → ltb (line_end page at) (length page) ≡ a → holds (is_frame page at (line_end page at)) ≡ b → ltb at (length page) ≡ c
      → line_at page at ≡ line_of a b c at
  unfolding line_at
  line_of_lem at p q r = λ i. line_of (p i) (q i) (r i) at

  -- nothing is left at the page's end
  pub at_end : (at : ℕ) → length page ≤ at → line_at page at ≡ End
  at_end at h =
      let end = le-ltb at (length page) h in
      line_of_lem at (ap (λ e. ltb e (length page)) (line_end_past at h) ∙ end) refl end

  -- bytes with no newline after them
  pub at_unfinished : (at : ℕ) → at < length page → length page ≤ line_end page at → line_at page at ≡ Unfinished
  at_unfinished at h e = line_of_lem at (le-ltb (line_end page at) (length page) e) refl (lt-ltb at (length page) h)

  -- a whole line that is no frame
  pub at_malformed : (at : ℕ) → line_end page at < length page → holds (is_frame page at (line_end page at)) ≡ false → line_at page at ≡ Malformed
  at_malformed at h e = line_of_lem at (lt-ltb (line_end page at) (length page) h) e refl

  -- a whole line that is a frame
  pub at_frame : (at : ℕ) → line_end page at < length page → holds (is_frame page at (line_end page at)) ≡ true
      → line_at page at ≡ Frame (kind_at page at) (suc (line_end page at))
  at_frame at h e = line_of_lem at (lt-ltb (line_end page at) (length page) h) e refl

  -- a line ends at its place or past it
  pub line_end_from : (at : ℕ) → at ≤ line_end page at
  unfolding line_end
  line_end_from at = lowest_from_on is_newline (length page - at) at

  -- a line that ends on the page ends in a newline
  pub line_end_newline : (at : ℕ) → line_end page at < length page → get_or page (line_end page at) 0 ≡ newline
  unfolding line_end
  line_end_newline at h =
      let found = lowest_from_passes is_newline (length page - at) at (omega arith) in
      eqb-true (get_or page (line_end page at) 0) newline found

  -- what is known of a place from what stands there
  abbrev pub LineSaid : ℕ → Line → Type 0
  LineSaid at (Frame kind next) =
      (line_end page at < length page) × (Means (is_frame page at (line_end page at)) × ((kind ≡ kind_at page at) × (next ≡ suc (line_end page at))))
  LineSaid at Malformed = (line_end page at < length page) × (Means (is_frame page at (line_end page at)) → ⊥)
  LineSaid at Unfinished = (at < length page) × (length page ≤ line_end page at)
  LineSaid at End = length page ≤ at

  pub line_said : (at : ℕ) → LineSaid at (line_at page at)
  line_said at = go (ltb (line_end page at) (length page)) (holds (is_frame page at (line_end page at))) (ltb at (length page)) refl refl refl
    where
      go : (a b c : Bool) → ltb (line_end page at) (length page) ≡ a → holds (is_frame page at (line_end page at)) ≡ b → ltb at (length page) ≡ c
          → LineSaid at (line_at page at)
      go true true c p q r =
          rw (line_of_lem at p q r) (ltb-true (line_end page at) (length page) p, (means (is_frame page at (line_end page at)) q, (refl, refl)))
      go true false c p q r = rw (line_of_lem at p q r) (ltb-true (line_end page at) (length page) p, denies (is_frame page at (line_end page at)) q)
      go false b true p q r = rw (line_of_lem at p q r) (ltb-true at (length page) r, ltb-false (line_end page at) (length page) p)
      go false b false p q r = rw (line_of_lem at p q r) (ltb-false at (length page) r)
