use Rattle.std.proofs.Common.{◌≡◌, ◌≤◌, [], ◌∷◌, ◌++◌, ◌+◌, get_or, take, add-one, arith, ◌∙◌}
use lib.Seq.{take-suc}
use Rattle.subdivision.specs.Sheet.{edge_above}
use Rattle.line.specs.Waiting.{lowered}
use Rattle.line.proofs.Turns.{lowered_none, lowered_next, cursor_falls, cursor_spares}
use Rattle.line.proofs.words.release.Goals as goal

pub loop-e-init : goal.loop-e-init
loop-e-init c =
    let a = c.args in
    (lowered_none a.edges.now a.waits.now, omega arith, λ z h e. e)

pub loop-e-preserved : goal.loop-e-preserved
loop-e-preserved c =
    let l = c.loop-e in
    let a = c.args in
    let e = get_or a.run.now l.e-index 0 in
    let zone : c.edge_above.result ≡ edge_above a.edges.now e = c.edge_above.ensures in
    let low = c.lower-low in
    let next : take (l.e-index + 1) a.run.now ≡ take l.e-index a.run.now ++ (e ∷ []) = rw (add-one l.e-index) (take-suc a.run.now l.e-index 0 (omega arith)) in
    let word : low.new.waits ≡ lowered a.edges.now (take (l.e-index + 1) a.run.now) a.waits.now =
    low.ensures.word ∙ rw (zone, next, l.invariant.0) (lowered_next a.edges.now (take l.e-index a.run.now) a.waits.now e) in
    let falls : low.result ≤ l.low = omega (arith, low.ensures.ready, cursor_falls (get_or l.waits c.edge_above.result 0) c.edge_above.result l.low) in
    (word, omega arith, λ z h o. l.invariant.2 z (omega arith) (cursor_spares l.waits c.edge_above.result l.low z (rw (← low.ensures.ready) h) (rw (← low.ensures.word) o)))
