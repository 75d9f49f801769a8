-- Laws of entries written over a lent list: to its front, and from a place on.
use mathlib.Core.Path.{◌≡◌, refl, sym, ap, ◌∙◌}
use mathlib.Core.List.{List, [], ◌∷◌, ◌++◌, append_assoc}
use Prim.Native.Nat.{ℕ, suc, ◌+◌, ◌<◌, ◌≤◌}
use native.Mathlib.Nat.{zero-add, add-zero}
use native.Mathlib.Numerals.{add-one}
use native.Mathlib.Omega.{arith}
use lib.ListN.{length, get_or, set, take, drop, length-append, length-drop, take-append-drop}
use lib.Seq.{length-take-le, take-append_seam, drop-append-add, drop-drop, set_at, set_split, append_snoc, drop-cons}
use Rattle.subdivision.specs.Lists.{tab, put, over}
use Rattle.theory.proofs.Lists.{length_tab, tab_more}

module _ {A : Type 0} where
  -- entries written where those before them end
  pub put_more : (done words lent : List A) (at : ℕ) → at ≡ length done → over words (put done lent) at ≡ put (done ++ words) lent
  put_more done words lent at e =
      rw (e, take-append_seam, drop-append-add, drop-drop, append_assoc, length-append)

  -- the next entry written after those of a put list
  pub put_next : (l lent : List A) (x : A) → length l < length lent → set (put l lent) (length l) x ≡ put (l ++ (x ∷ [])) lent
  put_next l lent x h =
      let long : length (l ++ (x ∷ [])) ≡ suc (length l) = omega (arith, length-append l (x ∷ [])) in
      rw (drop-cons lent (length l) x h, set_at l (get_or lent (length l) x) (drop (suc (length l)) lent) x (length l) refl, long, append_snoc l x (drop (suc (length l)) lent))

  -- a put list is as long as the lent one
  pub length_put : (words lent : List A) → length words ≤ length lent → length (put words lent) ≡ length lent
  length_put words lent h =
      omega (arith, length-append words (drop (length words) lent), length-drop (length words) lent)

  -- entries written from a place on are put after what stands before it
  over_put : (words lent : List A) (at : ℕ) → at ≤ length lent → over words lent at ≡ put (take at lent ++ words) lent
  over_put words lent at h =
      let long : length (take at lent ++ words) ≡ at + length words = omega (arith, length-append (take at lent) words, length-take-le at lent h) in
      rw long (sym (append_assoc (take at lent) words (drop (at + length words) lent)))

  -- a list is as long after entries were written over it
  pub length_over : (words lent : List A) (at : ℕ) → at + length words ≤ length lent → length (over words lent at) ≡ length lent
  length_over words lent at h =
      let long : length (take at lent ++ words) ≡ at + length words = omega (arith, length-append (take at lent) words, length-take-le at lent (omega arith)) in
      ap length (over_put words lent at (omega arith)) ∙ length_put (take at lent ++ words) lent (omega (arith, long))

  -- entries written from a place on, and more of them where those end
  pub over_more : (a b lent : List A) (at next : ℕ) → at ≤ length lent → next ≡ at + length a → over b (over a lent at) next ≡ over (a ++ b) lent at
  over_more a b lent at next h e =
      let long : length (take at lent ++ a) ≡ at + length a = omega (arith, length-append (take at lent) a, length-take-le at lent h) in
      ap (λ l. over b l next) (over_put a lent at h)
      ∙ put_more (take at lent ++ a) b lent next (e ∙ sym long)
      ∙ ap (λ l. put l lent) (append_assoc (take at lent) a b)
      ∙ sym (over_put (a ++ b) lent at h)

  -- entries written from the start on are put
  pub over_front : (words lent : List A) → over words lent 0 ≡ put words lent
  over_front words lent = rw (zero-add (length words))

  -- nothing written leaves a list as it is
  pub over_none : (lent : List A) (at : ℕ) → lent ≡ over [] lent at
  over_none lent at = rw (add-zero at) (sym (take-append-drop at lent))

  -- one entry written
  pub over_one : (x : A) (lent : List A) (at : ℕ) → at < length lent → set lent at x ≡ over (x ∷ []) lent at
  over_one x lent at h = rw (add-one at) (set_split lent at x h)

  -- four parts written one after the other from the start on
  pub four_over : (a b c d lent : List A) (x y z : ℕ) → x ≡ length a → y ≡ x + length b → z ≡ y + length c
      → over d (over c (over b (over a lent 0) x) y) z ≡ put (a ++ (b ++ (c ++ d))) lent
  four_over a b c d lent x y z e f g =
      ap (λ l. over d (over c (over b l x) y) z) (over_front a lent)
      ∙ ap (λ l. over d (over c l y) z) (put_more a b lent x e)
      ∙ ap (λ l. over d l z) (put_more (a ++ b) c lent y (omega (arith, length-append a b)))
      ∙ put_more ((a ++ b) ++ c) d lent z (omega (arith, length-append a b, length-append (a ++ b) c))
      ∙ ap (λ l. put l lent) (append_assoc (a ++ b) c d ∙ append_assoc a b (c ++ d))

  -- ---- a function's values, written one after the other

  -- none is written at the start
  pub put_tab_start : (f : ℕ → A) (lent : List A) → lent ≡ put (tab f 0) lent
  unfolding tab
  put_tab_start f lent = refl

  -- the next is written after those before it
  pub put_tab_next : (f : ℕ → A) (lent : List A) (i : ℕ) → i < length lent → set (put (tab f i) lent) i (f i) ≡ put (tab f (i + 1)) lent
  put_tab_next f lent i h =
      let long = length_tab f i in
      ap (λ k. set (put (tab f i) lent) k (f i)) (sym long) ∙ put_next (tab f i) lent (f i) (rw long h) ∙ ap (λ l. put l lent) (sym (tab_more f i))
