-- From one start to the next stands a fan of the vertex.
use Rattle.std.proofs.Common.{arith}
use Rattle.fans.proofs.FanTables.{fan_part}
use Rattle.fans.proofs.order.Fans.fan.Goals as goal

pub slice_bounds-result-count : goal.slice_bounds-result-count
slice_bounds-result-count c =
    let s = c.args.self in
    (fan_part s.edges.now s.eastern s.order.now s.starts.now s.are_fans c.args.v c.requires c.word-from.ensures c.word-to.ensures).rises

pub slice_bounds-result-start : goal.slice_bounds-result-start
slice_bounds-result-start c =
    let s = c.args.self in
    let part = fan_part s.edges.now s.eastern s.order.now s.starts.now s.are_fans c.args.v c.requires c.word-from.ensures c.word-to.ensures in
    omega (arith, part.rises, part.within)

pub slice_bounds-result-end : goal.slice_bounds-result-end
slice_bounds-result-end c =
    let s = c.args.self in
    let part = fan_part s.edges.now s.eastern s.order.now s.starts.now s.are_fans c.args.v c.requires c.word-from.ensures c.word-to.ensures in
    omega (arith, part.rises, part.within)

pub returns : goal.returns
returns c =
    let s = c.args.self in
    (fan_part s.edges.now s.eastern s.order.now s.starts.now s.are_fans c.args.v c.requires c.word-from.ensures c.word-to.ensures).fan
