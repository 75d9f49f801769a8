-- A choice by a test that is known.
use mathlib.Core.Path.{◌≡◌, refl}
use mathlib.Core.Bool.{Bool, true, false, true≢false, false≢true}

-- a choice by a test that passes is the first
pub first_choice : {A : Type 0} (b : Bool) (x y : A) → b ≡ true → elim b as (λ _. A) [ true ↦ x | false ↦ y ] ≡ x
first_choice true x y e = refl
first_choice false x y e = absurd (false≢true e)

-- a choice by a test that fails is the second
pub second_choice : {A : Type 0} (b : Bool) (x y : A) → b ≡ false → elim b as (λ _. A) [ true ↦ x | false ↦ y ] ≡ y
second_choice true x y e = absurd (true≢false e)
second_choice false x y e = refl
