use Rattle.worker_gate.proofs.Common.{false, ◌≡◌, ◌∙◌, arith, subst, root_of, HasBadge}
use Rattle.worker_gate.proofs.Moved.{all_more, all_rest, all_placed, moved_on}
use Rattle.worker_gate.proofs.seating.seat_all.Goals as goal

pub loop-seats-preserved : goal.loop-seats-preserved
loop-seats-preserved g c =
    let i = c.loop-seats.invariant in
    let one = c.seat_one-place.ensures in
    let push = c.push_reserved.ensures in
    let took = c.remove-seat.ensures in
    record {
      first = one.first;
      root = one.root ∙ i.root;
      parts = omega (arith, one.parts, i.parts, push.len);
      amount = one.none;
      lens = omega (arith, i.lens, push.len, took.len);
      moved = rw (push.items, took.items) (moved_on (λ p. p.seat) c.loop-seats.bench.items c.seat_one-place.result c.loop-seats.seats.items c.remove-seat.result c.args.seats.now.items (omega (arith, took.len)) took.value one.seat i.moved);
      numbers = rw push.items (all_placed (λ k p. p.number ≡ k) c.loop-seats.bench.items c.seat_one-place.result i.numbers (omega (arith, one.number, c.loop-seats.bench.ok)));
      unasked = rw push.items (all_more (λ p. p.asked ≡ false) c.loop-seats.bench.items c.seat_one-place.result i.unasked one.unasked);
      rest = rw push.items (all_more (λ p. HasBadge c.args.lock.now (root_of c.args.first.now) p.chair) c.loop-seats.bench.items c.seat_one-place.result i.rest (subst (λ root. HasBadge c.args.lock.now root c.seat_one-place.result.chair) i.root one.rests));
      readers = omega (arith, c.in-Some.ensures.len, took.len, i.readers);
      new = rw took.items (all_rest (λ s. (s.told ≡ 0) × (s.share ≡ 0)) c.loop-seats.seats.items i.new);
      room = push.capacity ∙ i.room;
      kept = took.capacity ∙ i.kept;
    }
