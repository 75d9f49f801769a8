-- Each kind has its word; a number of four bytes has at most ten digits.
use mathlib.Core.Path.{◌≡◌, sym, subst}
use mathlib.Core.List.{List}
use Prim.Native.Nat.{ℕ, ◌+◌, ◌<◌, ◌≤◌}
use native.Mathlib.Omega.{arith}
use Rattle.std.proofs.Common.{rules}
use lib.ListN.{length}
use Rattle.subdivision.specs.Results.{Reply}
use Rattle.subdivision.specs.Lists.{over}
use Rattle.frames.specs.Placing.{decimal, answer_text}
use Rattle.framing.proofs.AnswerTexts.{decimal_short, refused_long}
use Rattle.answers.proofs.put_reply.Goals as goal

-- a number of four bytes
short : (n : ℕ) → n < 4294967296 → length (decimal n) ≤ 10
short n h = decimal_short n 9 (omega arith)

-- what is ensured of the place past the line and the text
abbrev Ensured : Reply → List ℕ → ℕ → ℕ → List ℕ → Type 0
Ensured a lent at r text = ((r ≡ at + length (answer_text a)) × (length (answer_text a) ≤ 30)) × (text ≡ over (answer_text a) lent at)

pub put_refusal-requires : goal.put_refusal-requires
put_refusal-requires c =
    let r = c.in-Err.refusal in
    omega (arith, refused_long r.number r.item, short r.number (search rules), short r.item (search rules))

pub returns-in-Ok : goal.returns-in-Ok
returns-in-Ok c =
    let w = c.put_answer in
    let p = subst (λ (a : Reply). Ensured a c.args.text.now.bytes.now c.args.text.now.at w.new.text.at w.new.text.bytes.now) (sym c.in-Ok.is) (w.ensures.value, w.ensures.text_after) in
    record { value = p.0; text_after = p.1; same_text = w.ensures.same_text }

pub returns-in-Err : goal.returns-in-Err
unfolding answer_text
returns-in-Err c =
    let r = c.in-Err.refusal in
    let w = c.put_refusal in
    let p = subst (λ (a : Reply). Ensured a c.args.text.now.bytes.now c.args.text.now.at w.new.text.at w.new.text.bytes.now) (sym c.in-Err.is)
    ((w.ensures.value, omega (arith, refused_long r.number r.item, short r.number (search rules), short r.item (search rules))), w.ensures.text_after) in
    record { value = p.0; text_after = p.1; same_text = w.ensures.same_text }
