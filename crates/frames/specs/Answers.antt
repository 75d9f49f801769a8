-- The paper's numbers and values for each case of an answer.
use Rattle.std.specs.Prelude.{List, [], ◌∷◌, ℕ, Result, Ok, Err}
use Rattle.frames.specs.declared.PageContents.{PageContents}
use Rattle.frames.specs.declared.PageRefused.{PageRefused}
use Rattle.frames.specs.Texts.{Written}
use Rattle.frames.specs.Digits.{word_of}

-- the refusal's number and line, 0 0 where there is none; then the head's numbers as on the page, and the number of points
unfoldable pub page_values : Result PageContents PageRefused → List ℕ
page_values (Ok p) = 0 ∷ 0 ∷ word_of p.head.west ∷ word_of p.head.east ∷ p.head.vertices ∷ p.head.edges ∷ p.head.zones ∷ p.points ∷ []
page_values (Err e) = e.number ∷ e.line ∷ 0 ∷ 0 ∷ 0 ∷ 0 ∷ 0 ∷ 0 ∷ []

-- the refusal's number, 0 where there is none; then the bytes written
unfoldable pub written_values : Written → List ℕ
written_values (Ok count) = 0 ∷ count ∷ []
written_values (Err e) = e.number ∷ 0 ∷ []
