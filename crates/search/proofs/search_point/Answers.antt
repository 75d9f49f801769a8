-- The limits, the room of the index, the point's place and the room of the trail refuse in turn; then what the descent lists is written over the trail.
use Rattle.std.proofs.Common.{◌≡◌, Bool, List, ◌++◌, ℕ, ℤ, Ok, Err, length, take, drop, zero-add, sym, ap, ◌∙◌, subst, arith, rules}
use Rattle.std.proofs.Math.ListN.{length-take}
use Rattle.subdivision.specs.declared.Refused.{Refused}
use Rattle.subdivision.specs.Results.{Search, passed}
use Rattle.subdivision.specs.Formula.{is_at_most, both, holds, Means}
use Rattle.subdivision.specs.Lists.{put}
use Rattle.subdivision.specs.Sheet.{Sheet, sheet_of, shifted}
use Rattle.subdivision.specs.Rules.{in_range}
use Rattle.subdivision.specs.Refusals.{judged, counts_kept, limit_refusals}
use Rattle.subdivision.specs.Reading.{on_sheet}
use Rattle.subdivision.specs.Descent.{index_descent}
use Rattle.theory.proofs.Judgement.{passed_keeps}
use Rattle.theory.proofs.Shift.{Signed32}
use Rattle.tables.specs.Lent.{lent}
use Rattle.probes.specs.Margins.{unshifted, sheet_at}
use Rattle.probes.proofs.Margins.{unshifted_shifted}
use Rattle.descent.specs.Steps.{found_by, trail_of}
use Rattle.descent.proofs.Descending.{ended_long, ended_few}
use Rattle.search.proofs.Promises.{Promised, refused_by_limits, no_room, off_sheet_lem, no_trail, descended}
use Rattle.search.proofs.search_point.Goals as goal

-- a refusal that is handed up keeps the promises
handed : (s : Sheet) (index : List ℕ) (x y : ℤ) (trail : List ℕ) {r : Search} {e : Refused} → r ≡ Err e → Promised s index x y trail (Err e) trail → Promised s index x y trail r trail
handed s index x y trail same p = subst (λ (r : Search). Promised s index x y trail r trail) (sym same) p

-- the counts are within their limits
counts : (s : Sheet) → judged (limit_refusals s) ≡ passed → Means (counts_kept s)
counts s told = (passed_keeps (limit_refusals s) told).0

-- the test is of the point and the sheet's own margins
tested : (s : Sheet) (x y : ℤ) (w e px py : ℕ) {told answer : Bool} → told ≡ holds (both (both (is_at_most w px) (is_at_most px e)) (in_range py)) → told ≡ answer
    → w ≡ shifted s.west → e ≡ shifted s.east → px ≡ shifted x → py ≡ shifted y → holds (on_sheet s (shifted x) (shifted y)) ≡ answer
tested s x y w e px py said same k l m n =
    sym (said ∙ (λ i. holds (both (both (is_at_most (k i) (m i)) (is_at_most (m i) (l i))) (in_range (n i))))) ∙ same

-- a descent with shifted margins and a shifted point is that of the sheet and the point
same_descent : (s : Sheet) (index : List ℕ) (x y : ℤ) (w e px py : ℕ) → Signed32 s.west → Signed32 s.east → w ≡ shifted s.west → e ≡ shifted s.east → px ≡ shifted x → py ≡ shifted y
    → index_descent (sheet_at w e s.vertices s.edges s.zones) index px py ≡ index_descent s index (shifted x) (shifted y)
same_descent s index x y w e px py p q k l m n =
    let west = ap unshifted k ∙ unshifted_shifted s.west p in
    let east = ap unshifted l ∙ unshifted_shifted s.east q in
    λ i. index_descent (sheet_of (west i) (east i) s.vertices s.edges s.zones) index (m i) (n i)

pub returns-in_err-limits : goal.returns-in_err-limits
returns-in_err-limits c =
    let a = c.args in
    handed (lent a.sheet) a.index.now a.x a.y a.trail.now (search rules)
    (refused_by_limits (lent a.sheet) a.index.now a.x a.y a.trail.now c.in_err-limits.field-0.0 (sym c.limits.ensures ∙ c.in_err-limits.was))

pub need-requires : goal.need-requires
need-requires c =
    let k = counts (lent c.args.sheet) (sym c.limits.ensures ∙ c.in_ok-limits.was) in
    (k.1.1.1, omega (arith, k.1.0.1))

pub returns-then-index-need : goal.returns-then-index-need
returns-then-index-need c =
    let a = c.args in
    no_room (lent a.sheet) a.index.now a.x a.y a.trail.now (sym c.limits.ensures ∙ c.in_ok-limits.was) (omega (arith, c.need.ensures, c.if-index-need.true))

pub returns-then-not-on_sheet : goal.returns-then-not-on_sheet
returns-then-not-on_sheet c =
    let a = c.args in
    let off = tested (lent a.sheet) a.x a.y c.shifted-west.result c.shifted-east.result c.shifted.result c.shifted-2.result c.on_sheet.ensures c.if-not-on_sheet.true (search rules) (search rules) (search rules) (search rules) in
    off_sheet_lem (lent a.sheet) a.index.now a.x a.y a.trail.now (sym c.limits.ensures ∙ c.in_ok-limits.was) (omega (arith, c.need.ensures, c.if-index-need.false)) off

pub returns-then-trail-bit_length : goal.returns-then-trail-bit_length
returns-then-trail-bit_length c =
    let a = c.args in
    let here = tested (lent a.sheet) a.x a.y c.shifted-west.result c.shifted-east.result c.shifted.result c.shifted-2.result c.on_sheet.ensures c.if-not-on_sheet.false (search rules) (search rules) (search rules) (search rules) in
    no_trail (lent a.sheet) a.index.now a.x a.y a.trail.now (sym c.limits.ensures ∙ c.in_ok-limits.was) (omega (arith, c.need.ensures, c.if-index-need.false)) here (omega (arith, c.bit_length.ensures, c.if-trail-bit_length.true))

pub returns-in_err-found : goal.returns-in_err-found
returns-in_err-found c =
    let a = c.args in
    let s = lent a.sheet in
    let here = tested s a.x a.y c.shifted-west.result c.shifted-east.result c.shifted.result c.shifted-2.result c.on_sheet.ensures c.if-not-on_sheet.false (search rules) (search rules) (search rules) (search rules) in
    let same = same_descent s a.index.now a.x a.y c.shifted-west.result c.shifted-east.result c.shifted.result c.shifted-2.result (search rules) (search rules) (search rules) (search rules) (search rules) (search rules) in
    let listed = ap (λ (l : List ℕ). put l a.trail.now) (c.in_err-found.ensures.listed ∙ ap trail_of same) in
    handed s a.index.now a.x a.y a.trail.now (search rules)
    (descended s a.index.now a.x a.y a.trail.now (sym c.limits.ensures ∙ c.in_ok-limits.was) (omega (arith, c.need.ensures, c.if-index-need.false)) here (omega (arith, c.bit_length.ensures, c.if-trail-bit_length.false)) (Err c.in_err-found.field-0.0) a.trail.now (c.in_err-found.ensures.found ∙ ap found_by same) listed)

pub slice_bounds-examined-end : goal.slice_bounds-examined-end
slice_bounds-examined-end c =
    let found = c.in_ok-found.found in
    let front = c.descend.new.trail in
    omega (arith, ended_long _ (Ok found) front c.in_ok-found.ensures.found c.in_ok-found.ensures.listed, length-take found.examined front)

pub slice_bounds-write-end : goal.slice_bounds-write-end
slice_bounds-write-end c =
    sym (ended_long _ (Ok c.in_ok-found.found) c.descend.new.trail c.in_ok-found.ensures.found c.in_ok-found.ensures.listed)

pub write-requires : goal.write-requires
write-requires c =
    let k = counts (lent c.args.sheet) (sym c.limits.ensures ∙ c.in_ok-limits.was) in
    let long = ended_long _ (Ok c.in_ok-found.found) c.descend.new.trail c.in_ok-found.ensures.found c.in_ok-found.ensures.listed in
    omega (arith, long, c.bit_length.ensures, c.if-trail-bit_length.false, ended_few _ _ _ _ k.1.1.0 c.in_ok-found.ensures.found)

pub returns : goal.returns
returns c =
    let a = c.args in
    let s = lent a.sheet in
    let here = tested s a.x a.y c.shifted-west.result c.shifted-east.result c.shifted.result c.shifted-2.result c.on_sheet.ensures c.if-not-on_sheet.false (search rules) (search rules) (search rules) (search rules) in
    let same = same_descent s a.index.now a.x a.y c.shifted-west.result c.shifted-east.result c.shifted.result c.shifted-2.result (search rules) (search rules) (search rules) (search rules) (search rules) (search rules) in
    let words = take c.in_ok-found.found.examined c.descend.new.trail in
    let listed = c.write.ensures ∙ (λ i. words ++ drop (zero-add (length words) i) a.trail.now) ∙ ap (λ (l : List ℕ). put l a.trail.now) (c.in_ok-found.ensures.listed ∙ ap trail_of same) in
    descended s a.index.now a.x a.y a.trail.now (sym c.limits.ensures ∙ c.in_ok-limits.was) (omega (arith, c.need.ensures, c.if-index-need.false)) here (omega (arith, c.bit_length.ensures, c.if-trail-bit_length.false)) (Ok c.in_ok-found.found) c.write.new.table (c.in_ok-found.ensures.found ∙ ap found_by same) listed
