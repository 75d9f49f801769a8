-- The paper's numbers and values for each case of an answer.
use Rattle.subdivision.specs.Results.{Reply, refused, reply_of}
use Rattle.std.specs.Prelude.{List, [], ◌∷◌, ℕ, Ok, Err}
use Rattle.ledger.specs.Results.{Month, listed}

-- the refusal's number and the named item, 0 0 where there is none; then the samples on a boundary and those off the sheet
unfoldable pub month_values : Month → List ℕ
month_values (Ok m) = 0 ∷ 0 ∷ m.boundary ∷ m.off ∷ []
month_values (Err e) = e.number ∷ e.item ∷ 0 ∷ 0 ∷ []
