-- Finite search. Document 01, "Why the desk refuses": lowest means lowest-numbered.
use Rattle.std.specs.Prelude.{Bool, true, false, ℕ, zero, suc, ltb, Option, Some, None}

-- the lowest number from `at` on that passes the test, of the next `left` numbers; the number past them where none does
abbrev pub lowest_from : (ℕ → Bool) → ℕ → ℕ → ℕ
lowest_from test zero at = at
lowest_from test (suc left) at = elim (test at) [ true ↦ at | false ↦ lowest_from test left (suc at) ]

-- the lowest number below the count that passes the test; the count where none does
unfoldable pub lowest : (ℕ → Bool) → ℕ → ℕ
lowest test count = lowest_from test count zero

-- a number below the count as it is, and nothing where it is not below: where none passes, `lowest` is the count
abbrev pub found : ℕ → ℕ → Option ℕ
found count k = elim (ltb k count) [ true ↦ Some k | false ↦ None ]

-- the lowest number below the count that passes the test; none where none does
abbrev pub first : (ℕ → Bool) → ℕ → Option ℕ
first test count = found count (lowest test count)
