use Rattle.std.proofs.Common.{◌≡◌, ◌+◌, ◌-◌, add-zero, length, rules, arith, sym, ap, ◌∙◌}
use Rattle.std.proofs.lemmas.Iterator.{window_more}
use Rattle.std.specs.Slice.Iter.{windows_rest}
use Rattle.theory.proofs.Repeats.{point_key, Alike, IsLeastOf, least_passed, least_lowered}
use Rattle.repeats.proofs.least_repeat.Goals as goal

pub loop-pair-preserved-in-Some-least : goal.loop-pair-preserved-in-Some-least
loop-pair-preserved-in-Some-least c =
    let order = c.args.order.now in
    let key = point_key c.args.vertices.now in
    let here = length order - length (windows_rest c.loop-pair.pair-iterator) in
    let h = window_more order c.loop-pair.pair-iterator c.next.new.self _ _ c.in-Some.is c.next.ensures.steps (search rules) (search rules) (search rules) in
    let first = rw add-zero at (h.3 0 0 (search rules)) in
    let second = h.3 1 0 (search rules) in
    let on : length order - length (windows_rest c.next.new.self) ≡ here + 1 = omega (arith, h.0) in
    let one : Alike c.args.vertices.now order here = ap key (sym first) ∙ sym c.point_key.ensures.key ∙ c.if-point_key.true ∙ c.point_key-in-loop-pair.ensures.key ∙ ap key second in
    record { size = search rules; part = omega (arith, h.0); rest = h.1; some_left = omega (arith, h.0, h.2); least = rw on (least_lowered c.args.vertices.now order here _ _ (rw c.in-Some-least.is at c.loop-pair.invariant.least) one (omega (arith, second))) }

pub loop-pair-preserved : goal.loop-pair-preserved
loop-pair-preserved c =
    let order = c.args.order.now in
    let key = point_key c.args.vertices.now in
    let here = length order - length (windows_rest c.loop-pair.pair-iterator) in
    let h = window_more order c.loop-pair.pair-iterator c.next.new.self _ _ c.in-Some.is c.next.ensures.steps (search rules) (search rules) (search rules) in
    let first = rw add-zero at (h.3 0 0 (search rules)) in
    let second = h.3 1 0 (search rules) in
    let on : length order - length (windows_rest c.next.new.self) ≡ here + 1 = omega (arith, h.0) in
    let passed : IsLeastOf c.args.vertices.now order (here + 1) c.loop-pair.least = least_passed c.args.vertices.now order here c.loop-pair.least c.loop-pair.invariant.least (λ e. c.if-point_key.false (c.point_key.ensures.key ∙ ap key first ∙ e ∙ ap key (sym second) ∙ sym c.point_key-in-loop-pair.ensures.key)) in
    record { size = search rules; part = omega (arith, h.0); rest = h.1; some_left = omega (arith, h.0, h.2); least = rw on passed }

pub returns : goal.returns
returns c =
    let end : length c.args.order.now - length (windows_rest c.loop-pair.pair-iterator) ≡ length c.args.order.now - 1 = omega (arith, c.in-None.ensures.steps.1.0) in
    rw end at c.loop-pair.invariant.least
