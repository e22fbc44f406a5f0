use Rattle.head_splits.proofs.Common.{◌≡◌, ◌≤◌, ◌*◌, take, rota_of, class_count}
use Rattle.head_splits.proofs.meeting.duties_in_class.Given as goal

abbrev pub invariant-loop-row : goal.invariant-loop-row
invariant-loop-row l = record { sum : l.sum ≡ class_count (rota_of (take l.row-index l.rows)) l.class; few : l.sum ≤ 65535 * l.row-index }
