-- Lists as the other definitions use them: a function's values, the entries that pass a test, words written over lent ones.
use Rattle.std.specs.Prelude.{Bool, true, false, List, [], ◌∷◌, ◌++◌, ℕ, zero, suc, ◌+◌, length, take, drop}

-- `f at`, `f (at + 1)`, .. : as many as are left
abbrev pub tab_from : {A : Type 0} → (ℕ → A) → ℕ → ℕ → List A
tab_from f zero at = []
tab_from f (suc left) at = f at ∷ tab_from f left (suc at)

-- `f 0`, `f 1`, .. up to below the count
unfoldable pub tab : {A : Type 0} → (ℕ → A) → ℕ → List A
tab f count = tab_from f count zero

-- the entries of a list that pass a test, in its order
abbrev pub keep : (ℕ → Bool) → List ℕ → List ℕ
keep test [] = []
keep test (x ∷ xs) = elim (test x) [ true ↦ x ∷ keep test xs | false ↦ keep test xs ]

-- words written over the front of a lent list; what is past them stays
abbrev pub put : {A : Type 0} → List A → List A → List A
put words lent = words ++ drop (length words) lent

-- words written over a lent list from a place on; what is before and past them stays
abbrev pub over : {A : Type 0} → List A → List A → ℕ → List A
over words lent at = take at lent ++ (words ++ drop (at + length words) lent)
