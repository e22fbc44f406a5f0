use Rattle.local_moves.proofs.Common.{◌≡◌, ◌+◌, ◌-◌, ◌/◌, ◌<◌, ◌≤◌, ◌∙◌, length, sym, arith}
use Rattle.local_moves.proofs.RowPlaces.{before_at, not_before_at}
use Rattle.local_moves.proofs.places.place.Goals as goal

pub loop-low-preserved-then-is_before : goal.loop-low-preserved-then-is_before
loop-low-preserved-then-is_before c =
    let low = c.loop-low.low in
    let high = c.loop-low.high in
    let in_rows : high ≤ length c.args.rows.now = c.loop-low.invariant.within in
    let less : low < high = c.loop-low-test.true in
    let middle : low + (high - low) / 2 < high = omega arith in
    record {
      ordered = omega arith;
      within = in_rows;
      before = before_at c.args.rows.now c.args.duty.now _ c.index-rows-middle.result c.requires.order (omega arith) c.index-rows-middle.is (sym c.is_before.ensures ∙ c.if-is_before.true);
      stops = c.loop-low.invariant.stops;
    }

pub loop-low-preserved : goal.loop-low-preserved
loop-low-preserved c =
    let low = c.loop-low.low in
    let high = c.loop-low.high in
    let in_rows : high ≤ length c.args.rows.now = c.loop-low.invariant.within in
    let less : low < high = c.loop-low-test.true in
    let middle : low + (high - low) / 2 < high = omega arith in
    record {
      ordered = omega arith;
      within = omega arith;
      before = c.loop-low.invariant.before;
      stops = not_before_at c.args.rows.now c.args.duty.now _ c.index-rows-middle.result (omega arith) c.index-rows-middle.is (sym c.is_before.ensures ∙ c.if-is_before.false);
    }
