use Rattle.worker_gate.proofs.Common.{false, ◌≡◌, ◌∙◌, arith, ap, length, refl, suc, sym, Some, vec_len, new_seats, HasTurns}
use Rattle.worker_gate.proofs.Moved.{all_more, all_rest, all_placed, moved_on}
use Rattle.worker_gate.proofs.Dealt.{new_count, seats_rest}
use Rattle.worker_gate.proofs.turn_seating.seat_turns.Goals as goal

pub loop-seats-preserved : goal.loop-seats-preserved
loop-seats-preserved g c =
    let i = c.loop-seats.invariant in
    let one = c.seat_turn-place.ensures in
    let push = c.push_reserved.ensures in
    let took = c.remove-seat.ensures in
    let gave = c.remove-turns.ensures in
    let next : suc (vec_len c.loop-seats.bench) ≡ vec_len c.push_reserved.new.self = omega (arith, push.len) in
    record {
      made = rw gave.items (seats_rest c.args.lock.now.name (Some c.args.root.now) c.loop-seats.made.items (vec_len c.loop-seats.bench) (vec_len c.loop-seats.seats) (vec_len c.remove-seat.new.self) i.made (omega (arith, took.len)) ∙ ap (λ n. new_seats c.args.lock.now.name (Some c.args.root.now) n (vec_len c.remove-seat.new.self)) next);
      many = omega (arith, gave.len, took.len, i.many);
      given = gave.capacity ∙ i.given;
      parts = omega (arith, one.parts, i.parts, push.len);
      amount = one.none;
      lens = omega (arith, i.lens, push.len, took.len);
      moved = rw (push.items, took.items) (moved_on (λ p. p.seat) c.loop-seats.bench.items c.seat_turn-place.result c.loop-seats.seats.items c.remove-seat.result c.args.seats.now.items (omega (arith, took.len)) took.value one.seat i.moved);
      numbers = rw push.items (all_placed (λ k p. p.number ≡ k) c.loop-seats.bench.items c.seat_turn-place.result i.numbers (omega (arith, one.number, c.loop-seats.bench.ok)));
      unasked = rw push.items (all_more (λ p. p.asked ≡ false) c.loop-seats.bench.items c.seat_turn-place.result i.unasked one.unasked);
      rest = rw push.items (all_more (λ p. HasTurns c.args.lock.now p.number c.args.root.now p.chair) c.loop-seats.bench.items c.seat_turn-place.result i.rest one.rests);
      readers = omega (arith, c.in-Some.ensures.len, took.len, i.readers);
      new = rw took.items (all_rest (λ s. (s.told ≡ 0) × (s.share ≡ 0)) c.loop-seats.seats.items i.new);
      room = push.capacity ∙ i.room;
      kept = took.capacity ∙ i.kept;
    }

pub loop-seats-init : goal.loop-seats-init
loop-seats-init g c =
    let none = ap length c.requires.empty in
    let no_place : vec_len c.args.bench.now ≡ 0 = omega (arith, none, c.args.bench.now.ok) in
    let dealt = ap length c.requires.made ∙ new_count c.args.lock.now.name (Some c.args.root.now) 0 (vec_len c.args.seats.now) in
    record {
      made = c.requires.made ∙ ap (λ n. new_seats c.args.lock.now.name (Some c.args.root.now) n (vec_len c.args.seats.now)) (sym no_place);
      many = omega (arith, dealt, c.args.made.now.ok);
      given = refl;
      parts = omega (arith, no_place);
      amount = c.requires.none;
      lens = omega (arith, no_place);
      moved = rw c.requires.empty refl;
      numbers = λ i d low. absurd (omega (arith, low, none));
      unasked = λ i d low. absurd (omega (arith, low, none));
      rest = λ i d low. absurd (omega (arith, low, none));
      readers = c.requires.readers;
      new = c.requires.new;
      room = refl;
      kept = refl;
    }
