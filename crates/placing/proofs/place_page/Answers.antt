-- A text without room is refused; a page that is too long, or whose head counts more than is held, is one line; any other is read and placed.
use mathlib.Core.Path.{◌≡◌, sym, ap, subst, ◌∙◌}
use mathlib.Core.List.{List}
use Prim.Native.Nat.{ℕ}
use native.Mathlib.Omega.{arith}
use lib.Dec.{lit<}
use lib.ListN.{length}
use Rattle.io.specs.Counts.{IsPrefixLen}
use Rattle.subdivision.specs.Lists.{put}
use Rattle.std.specs.Prelude.{Ok}
use Rattle.subdivision.specs.Results.{refused}
use Rattle.frames.specs.Texts.{Written, PageWritten}
use Rattle.frames.specs.Placing.{place_page}
use Rattle.placing.proofs.Printed.{refused_short, placed_long, placed_beyond, places, places_short, printed_counts}
use Rattle.placing.proofs.place_page.Goals as goal

-- all that is ensured of an answer and a text
abbrev Ensured : List ℕ → List ℕ → Written → List ℕ → Type 0
Ensured page lent r text =
    (r ≡ (place_page page lent).written) × ((text ≡ (place_page page lent).text)
    × ((count : ℕ) → r ≡ Ok count → IsPrefixLen count text))

-- it follows from the definition
ensured : (page lent : List ℕ) (r : Written) (text : List ℕ) → ◌≡◌ {A = PageWritten} (record { written = r; text = text }) (place_page page lent) → Ensured page lent r text
ensured page lent r text e = (
  ap (λ q. q.written) e,
  (
    ap (λ q. q.text) e,
    λ count f. subst (λ q. IsPrefixLen count q) (ap (λ q. q.text) (sym e)) (printed_counts page lent count (ap (λ q. q.written) (sym e) ∙ f)),
  ),
)

pub returns-then-text-lt-MAX_TEXT : goal.returns-then-text-lt-MAX_TEXT
returns-then-text-lt-MAX_TEXT c =
    let a = c.args in
    let e = sym (places_short a.page.now a.text.now (omega arith)) in
    let p = ensured a.page.now a.text.now (refused 33 0) a.text.now e in
    record { written = p.0; text = p.1.0; counted = p.1.1 }

pub put_refused-requires : goal.put_refused-requires
put_refused-requires c = omega (arith, refused_short 34 0 (lit< tt) (lit< tt))

pub returns-then-page-gt-MAX_PAGE : goal.returns-then-page-gt-MAX_PAGE
returns-then-page-gt-MAX_PAGE c =
    let a = c.args in
    let r = c.put_refused in
    let line = sym (placed_long a.page.now (omega arith)) in
    let e = sym (places a.page.now a.text.now (omega arith)) in
    let long = r.ensures.value ∙ ap length line in
    let text = r.ensures.text_after ∙ ap (λ t. put t a.text.now) line in
    let p = ensured a.page.now a.text.now (Ok r.result) r.new.text ((λ i. record { written = Ok (long i); text = text i }) ∙ e) in
    record { written = p.0; text = p.1.0; counted = p.1.1 }

pub put_refused-requires-then-head_beyond : goal.put_refused-requires-then-head_beyond
put_refused-requires-then-head_beyond c = omega (arith, refused_short 1 0 (lit< tt) (lit< tt))

pub returns-then-head_beyond : goal.returns-then-head_beyond
returns-then-head_beyond c =
    let a = c.args in
    let r = c.put_refused-then-head_beyond in
    let beyond = sym c.head_beyond.ensures ∙ c.if-head_beyond.true in
    let line = sym (placed_beyond a.page.now (omega arith) beyond) in
    let e = sym (places a.page.now a.text.now (omega arith)) in
    let long = r.ensures.value ∙ ap length line in
    let text = r.ensures.text_after ∙ ap (λ t. put t a.text.now) line in
    let p = ensured a.page.now a.text.now (Ok r.result) r.new.text ((λ i. record { written = Ok (long i); text = text i }) ∙ e) in
    record { written = p.0; text = p.1.0; counted = p.1.1 }

pub place_read-requires : goal.place_read-requires
place_read-requires c =
    let held_head = sym c.head_beyond.ensures ∙ c.if-head_beyond.false in
    record { page_len_bound = (omega arith, omega arith); vertices_in_bounds = (omega arith, (omega arith, (omega arith, (omega arith, held_head)))) }

pub returns : goal.returns
returns c =
    let a = c.args in
    let r = c.place_read in
    let e = sym (places a.page.now a.text.now (omega arith)) in
    let p = ensured a.page.now a.text.now (Ok r.result) r.new.text ((λ i. record { written = Ok (r.ensures.value i); text = r.ensures.text_after i }) ∙ e) in
    record { written = p.0; text = p.1.0; counted = p.1.1 }
