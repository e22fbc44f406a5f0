use Rattle.worker_gate.proofs.Common.{Some, vec_len}
use Rattle.worker_gate.proofs.by_turns.run_turns.Given as goal

abbrev pub ghosts-run_turns_in-L-Ledger : goal.ghosts-run_turns_in-L-Ledger
ghosts-run_turns_in-L-Ledger g a = record { name = a.blank.name; parts = a.blank.parts }

abbrev pub ghosts-run_turns_in-L-Begun : goal.ghosts-run_turns_in-L-Begun
ghosts-run_turns_in-L-Begun g a = record { begun_at = Some (g.B.Board.seen a.board); begun_by = vec_len a.seats }
