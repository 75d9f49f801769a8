-- The places of a line's zones, written from its last place to its first.
use mathlib.Core.Path.{◌≡◌, refl, ap, ◌∙◌}
use mathlib.Core.Bool.{Bool, true, false}
use mathlib.Core.List.{List, [], ◌∷◌, ◌++◌, append_assoc}
use Prim.Native.Nat.{ℕ, zero, suc, ◌+◌, ◌<◌}
use native.Mathlib.Nat.{zero-lt-suc, add-zero, zero-add}
use native.Mathlib.Omega.{arith}
use lib.Dec.{ltb, eqb, leb-suc-suc}
use lib.ListN.{length, get_or, set, length-set}
use lib.Seq.{get_or-set_same, get_or-set_other}
use borrow.Author.Tests.{eqb-true, eqb-false, lt-ltb}
use Rattle.subdivision.specs.Lists.{tab}
use Rattle.subdivision.specs.ZoneLine.{position}
use Rattle.theory.proofs.Lists.{is_tab}
use Rattle.theory.proofs.Position.{length_snoc}
use Rattle.std.proofs.lemmas.List.{nil_from_length}

-- a table with the places of a line's zones written to it, the line's first place being `at`
abbrev pub placing : ℕ → List ℕ → List ℕ → List ℕ
placing at [] place = place
placing at (z ∷ line) place = set (placing (suc at) line place) z at

-- a turn of the loop that goes down: the last zone of what is left has its place written
pub placing_down : (line rest left done before place : List ℕ) (z p : ℕ) → line ≡ rest ++ done → rest ≡ left ++ (z ∷ []) → p ≡ length left
    → place ≡ placing (length rest) done before
    → (line ≡ left ++ (z ∷ done)) × (set place z p ≡ placing (length left) (z ∷ done) before)
placing_down line rest left done before place z p whole split at e =
    let long : length rest ≡ suc (length left) = ap length split ∙ length_snoc z left in
    (whole ∙ rw split (append_assoc left (z ∷ []) done), rw (e, long, at))

-- at the end nothing is left, and the places of the whole line are written
pub placing_end : (line rest done before place : List ℕ) → line ≡ rest ++ done → length rest ≡ 0 → place ≡ placing (length rest) done before
    → place ≡ placing 0 line before
placing_end line rest done before place whole none e =
    let empty : rest ≡ [] = nil_from_length rest none in
    rw (e, whole, empty)

-- the table keeps its length
pub length_placing : (at : ℕ) (line place : List ℕ) → length (placing at line place) ≡ length place
length_placing at [] place = refl
length_placing at (z ∷ line) place = length-set (placing (suc at) line place) z at ∙ length_placing (suc at) line place

-- the word at a place of the table
get_d_placing : (at : ℕ) (line place : List ℕ) (z : ℕ) → z < length place
    → get_or (placing at line place) z 0 ≡ elim (ltb (position z line) (length line)) [ true ↦ at + position z line | false ↦ get_or place z 0 ]
get_d_placing at [] place z h = refl
get_d_placing at (y ∷ line) place z h = go (eqb z y) refl (get_d_placing (suc at) line place z h)
  where
    rest : List ℕ
    rest = placing (suc at) line place

    go : (b : Bool) → eqb z y ≡ b
        → get_or rest z 0 ≡ elim (ltb (position z line) (length line)) [ true ↦ suc at + position z line | false ↦ get_or place z 0 ]
        → get_or (set rest y at) z 0 ≡ elim (ltb (elim b [ true ↦ zero | false ↦ suc (position z line) ]) (suc (length line))) [ true ↦ at + (elim b [ true ↦ zero | false ↦ suc (position z line) ]) | false ↦ get_or place z 0 ]
    go true e r =
        let there : y < length rest = omega (arith, eqb-true z y e, length_placing (suc at) line place) in
        rw (lt-ltb zero (suc (length line)) (zero-lt-suc (length line)), eqb-true z y e, add-zero) (get_or-set_same rest y at 0 there)
    go false e r =
        let further : suc at + position z line ≡ at + suc (position z line) = omega arith in
        rw (leb-suc-suc (suc (position z line)) (length line))
        (get_or-set_other rest y z at 0 (eqb-false z y e)
        ∙ (r ∙ ap (λ (k : ℕ). elim (ltb (position z line) (length line)) [ true ↦ k | false ↦ get_or place z 0 ]) further))

-- the table whole: each zone of the line has its place, and every other word stays
pub placing_whole : (line place : List ℕ)
    → placing 0 line place ≡ tab (λ z. elim (ltb (position z line) (length line)) [ true ↦ position z line | false ↦ get_or place z 0 ]) (length place)
placing_whole line place =
    is_tab word 0 (placing 0 line place) (length place) (length_placing 0 line place)
    (λ z h. get_d_placing 0 line place z h ∙ ap (λ (k : ℕ). elim (ltb (position z line) (length line)) [ true ↦ k | false ↦ get_or place z 0 ]) (zero-add (position z line)))
  where
    word : ℕ → ℕ
    word z = elim (ltb (position z line) (length line)) [ true ↦ position z line | false ↦ get_or place z 0 ]
