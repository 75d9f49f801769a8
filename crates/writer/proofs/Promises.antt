-- The writer's cases, and its promises, which follow from its equations.
use mathlib.Core.Path.{◌≡◌, refl, sym, ap, subst, ◌∙◌}
use mathlib.Core.List.{List}
use mathlib.Core.Logic.{◌⊎◌, inl, inr, ◌↔◌}
use Prim.Native.Nat.{ℕ, ◌≤◌}
use lib.IntN.{ℤ}
use lib.ListN.{length, take, drop}
use lib.Seq.{take-append_seam}
use Rattle.std.specs.Prelude.{Ok, Err}
use Rattle.subdivision.specs.declared.Refused.{Refused}
use Rattle.subdivision.specs.Results.{Verdict, refused}
use Rattle.subdivision.specs.Formula.{is_at_most, Means}
use Rattle.subdivision.specs.Lists.{put}
use Rattle.subdivision.specs.Sheet.{Sheet}
use Rattle.subdivision.specs.Refusals.{judged}
use Rattle.subdivision.specs.Faults.{GivenBy}
use Rattle.frames.specs.Texts.{Written, PageWritten, page_text, writable_counts, writer_refusals, write_page, ReadsBack}
use Rattle.std.proofs.lemmas.Bool.{false≢true}
use Rattle.theory.proofs.Decide.{decided}
use Rattle.theory.proofs.Faults.{says_given, given_exactly}
use Rattle.theory.proofs.Results.{same_refusal}
use Rattle.theory.proofs.Judgement.{kept_passes, none_named}
use Rattle.framing.proofs.TextPages.{WordsFit, reads_back}

module _ (s : Sheet) (points : List ℤ) (text : List ℕ) where
  -- what the writer leaves
  abbrev leaves : PageWritten
  leaves = write_page s points text

  -- the judgement before a word is written
  abbrev pub verdict : Verdict
  verdict = judged (writer_refusals s points (length text))

  -- a refused writer leaves the text as it was
  pub refuses : (e : Refused) → verdict ≡ Err e → leaves ≡ record { written = Err e; text = text }
  unfolding write_page
  refuses e j = rw (j, write_page)

  -- a writer that passes leaves the page over the front of the text
  pub writes : Means (writable_counts s points) → length (page_text s points) ≤ length text
      → leaves ≡ record { written = Ok (length (page_text s points)); text = put (page_text s points) text }
  unfolding write_page
  writes k r = rw (kept_passes (writer_refusals s points (length text)) (k, (r, tt)), write_page)

  -- refusal 1
  pub refused_1 : (Means (writable_counts s points) → ⊥) → verdict ≡ refused 1 0
  refused_1 k = says_given (writer_refusals s points (length text)) 1 0 (inl (refl, (k, inl (refl, refl))))

  -- refusal 33
  pub refused_33 : Means (writable_counts s points) → (length (page_text s points) ≤ length text → ⊥) → verdict ≡ refused 33 0
  refused_33 k r = says_given (writer_refusals s points (length text)) 33 0 (inr (k, inl (refl, (r, inl (refl, refl)))))

  -- the lines that are judged are exact
  exactly : (number item : ℕ) → (verdict ≡ refused number item) ↔ GivenBy (writer_refusals s points (length text)) number item
  exactly = given_exactly (writer_refusals s points (length text)) ((λ f. inl (refl, sym (none_named 1 (writable_counts s points)))), λ k. ((λ f. inl (refl, sym (none_named 33 (is_at_most (length (page_text s points)) (length text))))), λ r. tt))

  -- the writer refuses exactly what a line of its table refuses
  pub refused_exactly : (number item : ℕ) → (leaves.written ≡ refused number item) ↔ GivenBy (writer_refusals s points (length text)) number item
  refused_exactly number item =
      (there (decided (writable_counts s points)) (decided (is_at_most (length (page_text s points)) (length text))), λ g. ap (λ r. r.written) (refuses (record { number = number; item = item }) ((exactly number item).1 g)))
    where
      told : (n i : ℕ) → verdict ≡ refused n i → leaves.written ≡ refused number item → GivenBy (writer_refusals s points (length text)) number item
      told n i j e =
          let one = same_refusal n i number item (sym (ap (λ q. q.written) (refuses (record { number = n; item = i }) j)) ∙ e) in
          let same : ◌≡◌ {A = Verdict} (refused n i) (refused number item) = λ k. refused (one.0 k) (one.1 k) in
          (exactly number item).0 (j ∙ same)

      there : Means (writable_counts s points) ⊎ (Means (writable_counts s points) → ⊥) → (length (page_text s points) ≤ length text) ⊎ (length (page_text s points) ≤ length text → ⊥)
          → leaves.written ≡ refused number item → GivenBy (writer_refusals s points (length text)) number item
      there (inr k) r e = told 1 0 (refused_1 k) e
      there (inl k) (inr r) e = told 33 0 (refused_33 k r) e
      there (inl k) (inl r) e =
          let never : ◌≡◌ {A = Written} (Ok (length (page_text s points))) (refused number item) = sym (ap (λ q. q.written) (writes k r)) ∙ e in absurd (false≢true cc)

  -- a refusal leaves the text as it was
  pub untouched : (number item : ℕ) → leaves.written ≡ refused number item → leaves.text ≡ text
  untouched number item e =
      ap (λ r. r.text) (refuses (record { number = number; item = item }) ((exactly number item).1 ((refused_exactly number item).0 e)))

  -- the page that is written reads back
  pub back : Means (writable_counts s points) → WordsFit s points → ReadsBack s points (take (length (page_text s points)) (put (page_text s points) text))
  back k fit = subst (ReadsBack s points) (sym (take-append_seam (page_text s points) (drop (length (page_text s points)) text))) (reads_back s points k fit)

  -- what the writer promises of its answer and of the text afterwards
  pub record Promised (r : Written) (after : List ℕ) : Type 0 where
    pub written : r ≡ leaves.written
    pub text_after : after ≡ leaves.text
    pub given : (number item : ℕ) → (r ≡ refused number item) ↔ GivenBy (writer_refusals s points (length text)) number item
    pub untouched : (number item : ℕ) → r ≡ refused number item → after ≡ text
    pub reads_back : (count : ℕ) → r ≡ Ok count → ReadsBack s points (take count after)

  -- all of it of what the writer leaves, where that reads back
  promised : (r : Written) (after : List ℕ) → r ≡ leaves.written → after ≡ leaves.text
      → ((count : ℕ) → r ≡ Ok count → ReadsBack s points (take count after)) → Promised r after
  promised r after answer left again =
      record {
        written = answer;
        text_after = left;
        given = λ n i. (λ q. (refused_exactly n i).0 (sym answer ∙ q), λ g. answer ∙ (refused_exactly n i).1 g);
        untouched = λ n i q. left ∙ untouched n i (sym answer ∙ q);
        reads_back = again;
      }

  -- a refusal
  pub refusing : (number : ℕ) → verdict ≡ refused number 0 → (r : Written) → r ≡ refused number 0 → Promised r text
  refusing number j r p =
      promised r text (p ∙ sym (ap (λ q. q.written) whole)) (sym (ap (λ q. q.text) whole)) (λ count q. let never : refused number 0 ≡ Ok count = sym p ∙ q in absurd (false≢true cc))
    where
      whole : leaves ≡ record { written = Err (record { number = number; item = 0 }); text = text }
      whole = refuses (record { number = number; item = 0 }) j

  -- a page with room
  pub writing : Means (writable_counts s points) → length (page_text s points) ≤ length text → WordsFit s points
      → (count : ℕ) (after : List ℕ) → count ≡ length (page_text s points) → after ≡ put (page_text s points) text
      → (r : Written) → r ≡ Ok count → Promised r after
  writing k fits words count after long wrote r p =
      promised r after (p ∙ ap Ok long ∙ sym (ap (λ q. q.written) (writes k fits))) (wrote ∙ sym (ap (λ q. q.text) (writes k fits))) again
    where
      again : (n : ℕ) → r ≡ Ok n → ReadsBack s points (take n after)
      again n q =
          let same : Ok n ≡ Ok count = sym q ∙ p in
          let one : n ≡ count = cc in
          subst (λ (t : List ℕ). ReadsBack s points t) (λ i. take (sym (one ∙ long) i) (sym wrote i)) (back k words)
