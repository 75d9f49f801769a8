use Rattle.std.proofs.Common.{sym, ap, ◌∙◌, []}
use mir.Facts.{to_z-of_z}
use Rattle.std.proofs.Common.{◌∷◌, w32}
use native.Mathlib.Omega.{arith}
use Rattle.frames.specs.Digits.{word_of}
use Rattle.frames.specs.Answers.{page_values}
use Rattle.exports.proofs.tw_read_page.Goals as goal

pub returns-in-Ok-clause-page : goal.returns-in-Ok-clause-page
unfolding page_values
returns-in-Ok-clause-page c = (λ i. 0 ∷ 0 ∷ (c.word_of.ensures ∙ ap word_of (to_z-of_z {w = w32} {z = c.in-Ok.read.head.west} (record { sfits = omega arith }))) i ∷ (c.word_of-in-Ok.ensures ∙ ap word_of (to_z-of_z {w = w32} {z = c.in-Ok.read.head.east} (record { sfits = omega arith }))) i ∷ c.in-Ok.read.head.vertices ∷ c.in-Ok.read.head.edges ∷ c.in-Ok.read.head.zones ∷ c.in-Ok.read.points ∷ []) ∙ ap page_values (sym c.in-Ok.is ∙ c.read_page.ensures.page)

pub returns-in-Err-clause-page : goal.returns-in-Err-clause-page
unfolding page_values
returns-in-Err-clause-page c = ap page_values (sym c.in-Err.is ∙ c.read_page.ensures.page)
