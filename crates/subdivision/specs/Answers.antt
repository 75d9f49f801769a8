-- The paper's numbers and values for each case of an answer.
use Rattle.std.specs.Prelude.{List, [], ◌∷◌, ◌++◌, ℕ, ℤ, pos, negsuc, Ok, Err}
use Rattle.subdivision.specs.declared.Answer.{Answer}
use Rattle.subdivision.specs.declared.Side.{Side}
use Rattle.subdivision.specs.Results.{Verdict, Reply, Search, reply_of, examined_of, probes_of}

-- the kind of an answer, its number, and the named item: a refusal's kind is 0, a vertex's 1, an edge's 2, a zone's 3
unfoldable pub answer_values : Reply → List ℕ
answer_values (Ok (Answer.Vertex v)) = 1 ∷ v ∷ 0 ∷ []
answer_values (Ok (Answer.Edge e)) = 2 ∷ e ∷ 0 ∷ []
answer_values (Ok (Answer.Zone z)) = 3 ∷ z ∷ 0 ∷ []
answer_values (Err e) = 0 ∷ e.number ∷ e.item ∷ []

-- what a quick search gives back: the answer's kind, number and named item, the edges examined, the probes
unfoldable pub found_values : Search → List ℕ
found_values f = answer_values (reply_of f) ++ (examined_of f ∷ probes_of f ∷ [])

-- the number of the refusal and the named item; 0 0 where there is none
unfoldable pub verdict_values : Verdict → List ℕ
verdict_values (Ok u) = 0 ∷ 0 ∷ []
verdict_values (Err e) = e.number ∷ e.item ∷ []

-- the sign of (xe-xw)(y-yw) - (ye-yw)(x-xw): negative is below, zero is on
unfoldable pub side_value : Side → ℤ
side_value Side.Below = negsuc 0
side_value Side.On = pos 0
side_value Side.Above = pos 1
