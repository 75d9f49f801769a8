-- Each kind has its word; a number of four bytes has at most ten digits.
use mathlib.Core.Path.{◌≡◌, sym, subst}
use mathlib.Core.List.{List}
use Prim.Native.Nat.{ℕ, ◌+◌, ◌<◌, ◌≤◌}
use native.Mathlib.Omega.{arith}
use Rattle.std.proofs.Common.{Ok}
use lib.ListN.{length}
use Rattle.subdivision.specs.declared.Answer.{Answer}
use Rattle.subdivision.specs.Lists.{over}
use Rattle.frames.specs.Placing.{decimal, vertex_word, edge_word, zone_word, answer_text}
use Rattle.framing.proofs.AnswerTexts.{decimal_short, numbered_long}
use Rattle.answers.proofs.put_answer.Goals as goal

-- a number of four bytes
short : (n : ℕ) → n < 4294967296 → length (decimal n) ≤ 10
short n h = decimal_short n 9 (omega arith)

-- what is ensured of the place past the line and the text
abbrev Ensured : Answer → List ℕ → ℕ → ℕ → List ℕ → Type 0
Ensured a lent at r text = ((r ≡ at + length (answer_text (Ok a))) × (length (answer_text (Ok a)) ≤ 30)) × (text ≡ over (answer_text (Ok a)) lent at)

pub put_numbered-requires : goal.put_numbered-requires
put_numbered-requires c = omega (arith, numbered_long vertex_word c.in-Vertex.v, short c.in-Vertex.v (omega arith))

pub put_numbered-requires-in-Edge : goal.put_numbered-requires-in-Edge
put_numbered-requires-in-Edge c = omega (arith, numbered_long edge_word c.in-Edge.e, short c.in-Edge.e (omega arith))

pub put_numbered-requires-in-Zone : goal.put_numbered-requires-in-Zone
put_numbered-requires-in-Zone c = omega (arith, numbered_long zone_word c.in-Zone.z, short c.in-Zone.z (omega arith))

pub returns-in-Vertex : goal.returns-in-Vertex
unfolding answer_text
returns-in-Vertex c =
    let w = c.put_numbered in
    let p = subst (λ (a : Answer). Ensured a c.args.text.now.bytes.now c.args.text.now.at w.new.text.at w.new.text.bytes.now) (sym c.in-Vertex.is)
    ((w.ensures.value, omega (arith, numbered_long vertex_word c.in-Vertex.v, short c.in-Vertex.v (omega arith))), w.ensures.text_after) in
    record { value = p.0; text_after = p.1; same_text = w.ensures.same_text }

pub returns-in-Edge : goal.returns-in-Edge
unfolding answer_text
returns-in-Edge c =
    let w = c.put_numbered-in-Edge in
    let p = subst (λ (a : Answer). Ensured a c.args.text.now.bytes.now c.args.text.now.at w.new.text.at w.new.text.bytes.now) (sym c.in-Edge.is)
    ((w.ensures.value, omega (arith, numbered_long edge_word c.in-Edge.e, short c.in-Edge.e (omega arith))), w.ensures.text_after) in
    record { value = p.0; text_after = p.1; same_text = w.ensures.same_text }

pub returns-in-Zone : goal.returns-in-Zone
unfolding answer_text
returns-in-Zone c =
    let w = c.put_numbered-in-Zone in
    let p = subst (λ (a : Answer). Ensured a c.args.text.now.bytes.now c.args.text.now.at w.new.text.at w.new.text.bytes.now) (sym c.in-Zone.is)
    ((w.ensures.value, omega (arith, numbered_long zone_word c.in-Zone.z, short c.in-Zone.z (omega arith))), w.ensures.text_after) in
    record { value = p.0; text_after = p.1; same_text = w.ensures.same_text }
