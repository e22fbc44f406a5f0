use Rattle.worker_gate.proofs.Common.{◌≡◌, ◌<◌, ◌+◌, ◌-◌, ◌^◌, None, empty_hands, root_at, IsToldLast}
use Rattle.worker_gate.proofs.last.go_on.Given as goal

abbrev pub invariant-loop-noted : goal.invariant-loop-noted
invariant-loop-noted g l = record {
  root : root_at l.noted.held.opened l.noted.held.workers ≡ root_at l.initial.noted.held.opened l.initial.noted.held.workers;
  number : l.place.number ≡ 0;
  keeps : l.noted.keeps ≡ l.initial.noted.keeps;
  buffers : l.buffers ≡ l.initial.buffers;
  empty : (g.B.Board.seen l.noted.held.board).shut ≡ None → (g.B.Board.seen l.noted.held.board).hands ≡ empty_hands;
  told : (goal.Adviser-dyn g (l.initial.place.seat.adviser.vtable, l.initial.place.seat.adviser.value)).told l.initial.place.seat.adviser.value < 2 ^ 63 + l.initial.place.seat.told
      → (goal.Adviser-dyn g (l.place.seat.adviser.vtable, l.place.seat.adviser.value)).told l.place.seat.adviser.value + l.initial.place.seat.told
      ≡ (goal.Adviser-dyn g (l.initial.place.seat.adviser.vtable, l.initial.place.seat.adviser.value)).told l.initial.place.seat.adviser.value + l.place.seat.told;
  last : IsToldLast l.initial.noted.held.workers (g.B.Board.seen l.initial.noted.held.opened.value) 0 l.initial.place.seat.told l.place.seat.told
      ((goal.Adviser-dyn g (l.initial.place.seat.adviser.vtable, l.initial.place.seat.adviser.value)).last l.initial.place.seat.adviser.value)
      ((goal.Adviser-dyn g (l.place.seat.adviser.vtable, l.place.seat.adviser.value)).last l.place.seat.adviser.value);
}

abbrev pub decreases-loop-noted : goal.decreases-loop-noted
decreases-loop-noted g l = (g.B.Board.seen l.noted.held.opened.value).budget - (g.B.Board.seen l.noted.held.board).taken
