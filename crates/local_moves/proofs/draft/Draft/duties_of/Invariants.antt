use Rattle.local_moves.proofs.Common.{◌≡◌, ◌*◌, ◌≤◌, rota_of}
use Rattle.local_moves.proofs.ShiftDuties.{duties_before}
use Rattle.local_moves.proofs.draft.Draft.duties_of.Given as goal

abbrev pub invariant-loop-day : goal.invariant-loop-day
invariant-loop-day l = record {
  counted : l.duties ≡ duties_before (rota_of l.self.rows) l.shift l.day;
  small : l.duties ≤ l.day * 65535;
}
