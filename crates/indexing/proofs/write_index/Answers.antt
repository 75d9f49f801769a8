-- The places, the order and the starts are those of `packed`, and the four parts are written one after the other.
use Rattle.std.proofs.Common.{◌≡◌, ◌∙◌, sym, ap, ◌/◌, ◌+◌, ℕ, suc, List, length, add-one, rules, arith}
use Rattle.subdivision.specs.Limits.{max_edges, max_zones}
use Rattle.subdivision.specs.Lists.{tab, put}
use Rattle.subdivision.specs.Order.{in_order}
use Rattle.subdivision.specs.ZoneLine.{position}
use Rattle.theory.proofs.Groups.{group_start}
use Rattle.theory.proofs.Lists.{zeros_part}
use Rattle.indexing.specs.Keys.{placed_key}
use Rattle.indexing.proofs.Packed.{places_whole, parts_packed}
use Rattle.indexing.proofs.write_index.Goals as goal

pub returns : goal.returns
returns c =
    let vertices = c.args.tables.vertices.now in
    let edges = c.args.tables.edges.now in
    let line = c.args.line.now in
    let place : List ℕ = c.places.new.place in
    let order : List ℕ = c.group_by_key.new.order in
    let starts : List ℕ = c.group_by_key.new.starts in
    let key : ℕ → ℕ = placed_key vertices edges place in
    let keyed = c.group_by_key.ensures.sorted key (λ k r h p. search rules) in
    let placed : place ≡ tab (λ z. position z line) (length line) =
    c.places.ensures ∙ ap (tab _) (sym (zeros_part max_zones (length line) (omega arith))) ∙ places_whole line _ c.requires.by_index in
    let sorted : order ≡ in_order key (length edges / 4) = keyed.0 ∙ ap (in_order key) (sym (zeros_part max_edges c.edge_count.result (omega (arith, c.edge_count.ensures))) ∙ c.edge_count.ensures) in
    let grouped : starts ≡ tab (group_start key order) (suc (length line)) = keyed.1 ∙ ap (tab (group_start key order)) (sym (zeros_part (suc max_zones) (length line + 1) (omega arith)) ∙ add-one (length line)) in
    c.parts.ensures ∙ ap (λ (w : List ℕ). put w c.args.index.now) (parts_packed vertices edges line c.requires.by_index_2 place order starts placed sorted grouped)
