-- Each number of the head stands at its own place.
use mathlib.Core.Path.{ap, ◌∙◌}
use Rattle.frames.specs.Digits.{number, signed_of}
use Rattle.framing.proofs.ReadDigits.{word_below}
use Rattle.framing.proofs.Signs.{signed_kept}
use Rattle.pages.proofs.page_tables.read_head.Goals as goal

pub returns : goal.returns
returns c =
    let page = c.args.page.now in
    let west = signed_kept (number page 2 8) _ (word_below page 2) (c.signed_of.ensures ∙ ap signed_of c.number.ensures) in
    let east = signed_kept (number page 10 8) _ (word_below page 10) (c.signed_of-2.ensures ∙ ap signed_of c.number-2.ensures) in
    λ i. record { west = west i; east = east i; vertices = c.number-3.ensures i; edges = c.number-4.ensures i; zones = c.number-5.ensures i }
