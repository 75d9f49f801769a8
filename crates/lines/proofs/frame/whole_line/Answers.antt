-- Each answer is the definition's case: no frame for one of three reasons, a frame.
use mathlib.Core.Path.{◌≡◌, sym, ap, ◌∙◌}
use mathlib.Core.List.{List}
use Prim.Native.Nat.{ℕ, ◌+◌, ◌-◌, ◌<◌}
use native.Mathlib.Numerals.{add-one}
use native.Mathlib.Omega.{arith}
use Rattle.subdivision.specs.Formula.{Means}
use Rattle.frames.specs.declared.Line.TheVariants.{Frame, Malformed}
use Rattle.frames.specs.Lines.{kind_at, is_hexadecimal, is_frame, frame_length}
use Rattle.theory.proofs.Decide.{fails, held, means, denies}
use Rattle.lines.specs.WholeLine.{whole_line}
use Rattle.lines.proofs.frame.whole_line.Goals as goal
use Rattle.lines.proofs.frame.whole_line.Goals.{else-kind-lt4-via-then-kind-lt4+else-end-at, else-kind-lt4-via-else-kind-lt4}

-- bytes that break what a frame keeps
malformed : (page : List ℕ) (at end : ℕ) → (Means (is_frame page at end) → ⊥) → Malformed ≡ whole_line page at end
malformed page at end f = rw (fails (is_frame page at end) f, whole_line)

-- bytes that keep all of it
frame : (page : List ℕ) (at end kind : ℕ) → kind ≡ kind_at page at → Means (is_hexadecimal page at end) → kind < 4 → end - at ≡ frame_length kind
    → Frame kind (end + 1) ≡ whole_line page at end
frame page at end kind k hex known long =
    let made : Means (is_frame page at end) = (hex, (rw k at known, rw k at long)) in
    rw (add-one end, k, held (is_frame page at end) made, whole_line)

pub returns-then-not-hexadecimal : goal.returns-then-not-hexadecimal
returns-then-not-hexadecimal c =
    let a = c.args in
    malformed a.page.now a.at a.end (λ m. denies (is_hexadecimal a.page.now a.at a.end) (sym c.hexadecimal.ensures ∙ c.if-not-hexadecimal.true) m.0)

pub returns-then-end-at : goal.returns-then-end-at
returns-then-end-at c =
    let a = c.args in
    frame a.page.now a.at a.end c.number-kind.result c.number-kind.ensures
    (means (is_hexadecimal a.page.now a.at a.end) (sym c.hexadecimal.ensures ∙ c.if-not-hexadecimal.false)) c.if-kind-lt4.true (c.if-end-at.true ∙ c.frame_length.ensures)

pub returns-else-kind-lt4 : goal.returns-else-kind-lt4
returns-else-kind-lt4 c =
    let a = c.args in
    let kind = c.number-kind in
    malformed a.page.now a.at a.end (λ m. elim c.else-kind-lt4.branch [
      | else-kind-lt4-via-then-kind-lt4+else-end-at w ↦ w.if-end-at.false (m.1.1 ∙ ap frame_length (sym kind.ensures) ∙ sym w.frame_length.ensures)
      | else-kind-lt4-via-else-kind-lt4 w ↦ omega (arith, m.1.0, kind.ensures)
    ])
