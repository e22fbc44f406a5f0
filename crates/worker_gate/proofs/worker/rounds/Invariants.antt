use Rattle.worker_gate.proofs.Common.{◌≡◌, ◌<◌, ◌+◌, ◌^◌, true, false, IsToldLast, KnowsBoard}
use Rattle.worker_gate.proofs.worker.rounds.Given as goal

abbrev pub invariant-loop : goal.invariant-loop
invariant-loop g l = record {
  next : (goal.iterator-loop g).can_next l.iterator';
  finite : (goal.iterator-loop g).is_finite l.iterator';
  outside : g.K.Taking.outside l.lock l.place.number l.pass;
  knows : KnowsBoard g.B.Board.seen l.instance l.place.number (g.K.Taking.root l.pass);
  number : l.place.number ≡ l.initial.place.number;
  buffers : l.buffers ≡ l.instance;
  told : (goal.Adviser-dyn g (l.initial.place.seat.adviser.vtable, l.initial.place.seat.adviser.value)).told l.initial.place.seat.adviser.value < 2 ^ 63 + l.initial.place.seat.told
      → (goal.Adviser-dyn g (l.place.seat.adviser.vtable, l.place.seat.adviser.value)).told l.place.seat.adviser.value + l.initial.place.seat.told
      ≡ (goal.Adviser-dyn g (l.initial.place.seat.adviser.vtable, l.initial.place.seat.adviser.value)).told l.initial.place.seat.adviser.value + l.place.seat.told;
  root : g.K.Taking.root l.pass ≡ g.K.Taking.root l.initial.pass;
  last : IsToldLast (g.K.Taking.root l.initial.pass).workers (g.B.Board.seen (g.K.Taking.root l.initial.pass).opened.value) l.initial.place.number l.initial.place.seat.told l.place.seat.told
      ((goal.Adviser-dyn g (l.initial.place.seat.adviser.vtable, l.initial.place.seat.adviser.value)).last l.initial.place.seat.adviser.value)
      ((goal.Adviser-dyn g (l.place.seat.adviser.vtable, l.place.seat.adviser.value)).last l.place.seat.adviser.value);
  asked : l.place.asked ≡ true → l.initial.place.asked ≡ false → g.S.Stop.can_ask l.stop ≡ true;
}
