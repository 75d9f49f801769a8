-- Rule 3 at one vertex, from what is known of its edges.
use Rattle.std.specs.Prelude.{Bool, true, false, ℕ, ltb, eqb}

-- both tests pass
abbrev pub both_pass : Bool → Bool → Bool
both_pass a b = elim a [ true ↦ b | false ↦ false ]

-- where the first test passes, so does the second
abbrev pub then_pass : Bool → Bool → Bool
then_pass a b = elim a [ true ↦ b | false ↦ true ]

-- rule 3 of a vertex at x, by whether it has an edge on its west and one on its east
unfoldable pub regular : ℕ → ℕ → ℕ → Bool → Bool → Bool
regular west east x has_western has_eastern =
    both_pass (then_pass (both_pass (ltb west x) (ltb x east)) (both_pass has_western has_eastern))
    (both_pass (then_pass (eqb x west) has_eastern) (then_pass (eqb x east) has_western))
