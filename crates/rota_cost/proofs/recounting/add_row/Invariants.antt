use Rattle.rota_cost.proofs.Common.{◌+◌, duty_of}
use Rattle.rota_cost.proofs.Marks.{IsMarked}
use Rattle.rota_cost.proofs.recounting.add_row.Given as goal

abbrev pub invariant-loop-offset : goal.invariant-loop-offset
invariant-loop-offset l = IsMarked l.instance (duty_of l.row) (λ n. n + l.row.count) l.initial.counts l.counts l.offset
