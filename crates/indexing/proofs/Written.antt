-- The four parts of an index, written one after the other to the front of lent words.
use mathlib.Core.Path.{◌≡◌, ◌∙◌}
use mathlib.Core.List.{List, ◌++◌, append_assoc}
use Prim.Native.Nat.{ℕ, suc}
use native.Mathlib.Nat.{zero-add}
use native.Mathlib.Omega.{arith}
use lib.ListN.{length, length-append}
use Rattle.subdivision.specs.Lists.{put, over}
use Rattle.subdivision.specs.Layout.{place_word, zone_word, start_word, entry_word}
use Rattle.theory.proofs.Written.{put_more}

-- the four parts of an index, each written where Layout.antt has it
pub parts_put : (place line starts entries lent first second third fourth : List ℕ) (o a b c : ℕ)
    → length place ≡ length line → length starts ≡ suc (length line)
    → o ≡ place_word (length line) 0 → a ≡ zone_word (length line) 0 → b ≡ start_word (length line) 0 → c ≡ entry_word (length line) 0
    → first ≡ over place lent o → second ≡ over line first a → third ≡ over starts second b → fourth ≡ over entries third c
    → fourth ≡ put (place ++ (line ++ (starts ++ entries))) lent
parts_put place line starts entries lent first second third fourth o a b c long more n p q r e f g h =
    let one : first ≡ put place lent = e ∙ rw (n, zero-add) in
    let two : second ≡ put (place ++ line) lent = f ∙ rw one (put_more place line lent a (omega arith)) in
    let three : third ≡ put (place ++ line ++ starts) lent =
    g ∙ rw two (put_more (place ++ line) starts lent b (omega (arith, length-append place line))) in
    let four : fourth ≡ put (place ++ line ++ starts ++ entries) lent =
    h ∙ rw three (put_more (place ++ line ++ starts) entries lent c (omega (arith, length-append place line, length-append (place ++ line) starts))) in
    rw (append_assoc (place ++ line) starts entries, append_assoc place line (starts ++ entries)) at four
