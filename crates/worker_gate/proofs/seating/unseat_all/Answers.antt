use Rattle.worker_gate.proofs.Common.{◌≡◌, ◌∙◌, arith, map, sym}
use Rattle.worker_gate.proofs.Moved.{all_more, moved_back, sum_more}
use Rattle.worker_gate.proofs.seating.unseat_all.Goals as goal

pub loop-bench-preserved : goal.loop-bench-preserved
loop-bench-preserved g c =
    let i = c.loop-bench.invariant in
    let took = c.remove-seat.ensures in
    let place = c.remove-seat.result in
    let merge = c.merge.ensures in
    let push = c.push_reserved.ensures in
    let more = sum_more (λ s. s.share) c.loop-bench.seats.items place.seat in
    record {
      parts = omega (arith, merge.parts, place.one_part, took.len, i.parts);
      lens = omega (arith, i.lens, push.len, took.len);
      moved = rw (push.items, took.items) (moved_back (λ p. p.seat) c.loop-bench.seats.items place c.loop-bench.bench.items (map (λ p. p.seat) c.args.bench.now.items) (omega (arith, took.len, c.loop-bench.bench.ok)) took.value i.moved);
      each = rw push.items (all_more (λ s. s.told ≡ s.share) c.loop-bench.seats.items place.seat i.each (place.told ∙ sym place.shared));
      amount = rw push.items (omega (arith, merge.amount, place.shared, i.amount, more));
      room = push.capacity ∙ i.room;
    }
