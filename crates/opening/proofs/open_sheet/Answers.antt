-- The limits, the room and the rules refuse in turn; then the line is read back from its words and the index written.
use mathlib.Core.Path.{◌≡◌, sym, ap, ◌∙◌, subst}
use mathlib.Core.List.{List}
use Prim.Native.Nat.{ℕ, ◌<◌, ◌≤◌}
use native.Mathlib.Omega.{arith}
use lib.ListN.{length, take, drop, replicate}
use lib.Seq.{take_at}
use Rattle.std.proofs.Common.{rules, refl}
use Rattle.subdivision.specs.Results.{Verdict, passed, refused}
use Rattle.subdivision.specs.Limits.{max_edges, max_zones}
use Rattle.subdivision.specs.Layout.{index_need}
use Rattle.subdivision.specs.Lists.{put}
use Rattle.subdivision.specs.Sheet.{Sheet, edge_count, zone_count, above_of, below_of}
use Rattle.subdivision.specs.ZoneLine.{position, zone_line}
use Rattle.subdivision.specs.Refusals.{limit_refusals}
use Rattle.subdivision.specs.Accepted.{Accepted}
use Rattle.theory.proofs.Chains.{accepted_line, accepted_above}
use Rattle.theory.proofs.Judgement.{passed_keeps, accepted_decides}
use Rattle.theory.proofs.ZoneLine.{line_kept}
use Rattle.sheet.specs.Judgement.{line_left}
use Rattle.indexing.specs.Packed.{packed}
use Rattle.indexing.proofs.Packed.{accepted_index}
use Rattle.tables.specs.Lent.{lent}
use Rattle.opening.proofs.Promises.{refusal_promised, opened_promised, refused_by_limits, no_room, with_room}
use Rattle.opening.proofs.open_sheet.Goals as goal

-- the words that the rules wrote
written : (s : Sheet) (v : Verdict) (line : List ℕ) → v ≡ passed → line ≡ line_left s v (replicate max_zones 0) → line ≡ put (zone_line s) (replicate max_zones 0)
written s v line told e = e ∙ (λ i. line_left s (told i) (replicate max_zones 0))

-- the line read back from those words
read_back : (s : Sheet) → Accepted s → (v : Verdict) (line : List ℕ) → v ≡ passed → line ≡ line_left s v (replicate max_zones 0) → take (zone_count s) line ≡ zone_line s
read_back s a v line told e =
    let l = zone_line s in
    ap (take (zone_count s)) (written s v line told e) ∙ take_at l (drop (length l) (replicate max_zones 0)) (zone_count s) (accepted_line s a)

-- what the index is written from: a whole line, and edges that name its zones
Writable : Sheet → List ℕ → ℕ → Type 0
Writable s l words =
    (((edge_count s ≤ max_edges) × (length l ≤ max_zones)) × (index_need (length l) (edge_count s) ≤ words))
    × (((z : ℕ) → z < length l → position z l < length l)
    × ((e : ℕ) → e < edge_count s → (above_of s e < length l) × (below_of s e < length l)))

writable : (s : Sheet) → Accepted s → (words : ℕ) → index_need (zone_count s) (edge_count s) ≤ words → Writable s (zone_line s) words
unfolding Writable
writable s a words enough =
    let long = accepted_line s a in
    let kept = line_kept s long (accepted_above s a) in
    (((a.counts.1.0.1, omega (arith, a.counts.1.1.1)), rw long enough), (λ z h. kept.holding z (rw long at h), λ e h. rw long (a.two.0 e h).1))

pub returns-in_err-limits : goal.returns-in_err-limits
returns-in_err-limits c =
    let s = lent c.args.sheet in
    let p = refusal_promised s c.args.index.now _ c.from_residual.result (refused_by_limits s c.args.index.now _ _ (sym c.limits.ensures ∙ c.in_err-limits.was)) (search rules) in
    search rules

pub need-requires : goal.need-requires
need-requires c =
    let k = (passed_keeps (limit_refusals (lent c.args.sheet)) (sym c.limits.ensures ∙ c.in_ok-limits.was)).0 in
    (k.1.1.1, omega (arith, k.1.0.1, c.edge_count.ensures))

pub returns-then-index-need : goal.returns-then-index-need
returns-then-index-need c =
    let s = lent c.args.sheet in
    let short : length c.args.index.now < index_need (zone_count s) (edge_count s) = omega (arith, c.edge_count.ensures, c.need.ensures, c.if-index-need.true) in
    let p = refusal_promised s c.args.index.now (record { number = 3; item = 0 }) (refused 3 0) (no_room s c.args.index.now (sym c.limits.ensures ∙ c.in_ok-limits.was) short) refl in
    search rules

pub returns-in_err-rules : goal.returns-in_err-rules
returns-in_err-rules c =
    let s = lent c.args.sheet in
    let room : index_need (zone_count s) (edge_count s) ≤ length c.args.index.now = omega (arith, c.edge_count.ensures, c.need.ensures, c.if-index-need.false) in
    let p = refusal_promised s c.args.index.now _ c.from_residual-in_err-rules.result (with_room s c.args.index.now (sym c.limits.ensures ∙ c.in_ok-limits.was) room ∙ sym c.rules.ensures.verdict ∙ c.in_err-rules.was) (search rules) in
    search rules

pub slice_bounds-write_index-end : goal.slice_bounds-write_index-end
slice_bounds-write_index-end c =
    let s = lent c.args.sheet in
    let accepted = (accepted_decides s).0 (sym c.rules.ensures.verdict ∙ c.in_ok-rules.was) in
    sym (ap length (read_back s accepted c.rules.result c.rules.new.line c.in_ok-rules.was c.rules.ensures.written) ∙ accepted_line s accepted)

pub write_index-requires : goal.write_index-requires
unfolding Writable
write_index-requires c =
    let s = lent c.args.sheet in
    let accepted = (accepted_decides s).0 (sym c.rules.ensures.verdict ∙ c.in_ok-rules.was) in
    let back = read_back s accepted c.rules.result c.rules.new.line c.in_ok-rules.was c.rules.ensures.written in
    let room : index_need (zone_count s) (edge_count s) ≤ length c.args.index.now = omega (arith, c.edge_count.ensures, c.need.ensures, c.if-index-need.false) in
    let all = subst (λ (l : List ℕ). Writable s l (length c.args.index.now)) (sym back) (writable s accepted (length c.args.index.now) room) in
    record { edges_len_bound = all.0; by_index = all.1.0; by_index_2 = all.1.1 }

pub returns : goal.returns
returns c =
    let s = lent c.args.sheet in
    let a = c.args in
    let accepted = (accepted_decides s).0 (sym c.rules.ensures.verdict ∙ c.in_ok-rules.was) in
    let back = read_back s accepted c.rules.result c.rules.new.line c.in_ok-rules.was c.rules.ensures.written in
    let room : index_need (zone_count s) (edge_count s) ≤ length a.index.now = omega (arith, c.edge_count.ensures, c.need.ensures, c.if-index-need.false) in
    let w =
    c.write_index.ensures ∙ (λ i. put (packed s.vertices s.edges (back i)) a.index.now)
    ∙ ap (λ (l : List ℕ). put l a.index.now) (accepted_index s accepted) in
    let p = opened_promised s a.index.now passed c.write_index.new.index (with_room s a.index.now (sym c.limits.ensures ∙ c.in_ok-limits.was) room ∙ sym c.rules.ensures.verdict ∙ c.in_ok-rules.was) w refl in
    search rules
