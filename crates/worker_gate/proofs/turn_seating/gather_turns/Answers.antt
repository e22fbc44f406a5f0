use Rattle.worker_gate.proofs.Common.{◌≡◌, ◌∙◌, ◌+◌, ◌<◌, ◌≤◌, Some, arith, ap, length, refl, slice_index_or, HasTurns}
use Rattle.worker_gate.proofs.Moved.{all_more}
use Rattle.worker_gate.proofs.Pointwise.{any_default, set_each}
use Rattle.worker_gate.proofs.turn_seating.gather_turns.Goals as goal

pub loop-place-init : goal.loop-place-init
loop-place-init g c =
    let none = ap length c.requires.none in
    record {
      count = omega (arith, none, c.args.made.now.ok);
      room = refl;
      lock = λ i d low. absurd (omega (arith, low, none));
      root = λ i d low. absurd (omega (arith, low, none));
      there = λ i d low at. c.requires.rest i d low;
      seats = λ i d low. refl;
      numbers = λ i d low. refl;
      asked = λ i d low. refl;
    }

pub unseat_turn-seat-requires : goal.unseat_turn-seat-requires
unseat_turn-seat-requires g c = c.loop-place.invariant.there c.loop-place.place-index c.place-item.result (omega (arith, c.loop-place-test.true)) (omega arith)

pub loop-place-preserved : goal.loop-place-preserved
loop-place-preserved g c =
    let i = c.loop-place.invariant in
    let at = c.loop-place.place-index in
    let bench = c.loop-place.bench in
    let place = c.unseat_turn-seat.new.place in
    let item = c.place-item.result in
    let e = c.unseat_turn-seat.ensures in
    let push = c.push_reserved.ensures in
    let low : at < length bench = omega (arith, c.loop-place-test.true) in
    record {
      count = omega (arith, push.len, i.count);
      room = push.capacity ∙ i.room;
      lock = rw push.items (all_more (λ s. s.lock ≡ c.args.lock.now.name) c.loop-place.made.items c.unseat_turn-seat.result i.lock e.lock);
      root = rw push.items (all_more (λ s. s.root ≡ Some c.args.root.now) c.loop-place.made.items c.unseat_turn-seat.result i.root e.root);
      there = set_each (λ j d p. at + 1 ≤ j → HasTurns c.args.lock.now p.number c.args.root.now p.chair) bench at place (λ d above. absurd (omega (arith, above))) (λ j d near above. i.there j d near (omega (arith, above)));
      seats = set_each (λ j d p. p.seat ≡ (slice_index_or c.args.bench.now j d).seat) bench at place (λ d. e.seat ∙ ap (λ p. p.seat) (any_default bench at item d low) ∙ i.seats at d low) i.seats;
      numbers = set_each (λ j d p. p.number ≡ (slice_index_or c.args.bench.now j d).number) bench at place (λ d. e.number ∙ ap (λ p. p.number) (any_default bench at item d low) ∙ i.numbers at d low) i.numbers;
      asked = set_each (λ j d p. p.asked ≡ (slice_index_or c.args.bench.now j d).asked) bench at place (λ d. e.asked ∙ ap (λ p. p.asked) (any_default bench at item d low) ∙ i.asked at d low) i.asked;
    }
