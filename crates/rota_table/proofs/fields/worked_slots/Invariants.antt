use Rattle.rota_table.proofs.Common.{◌≡◌, ◌-◌, fold, take}
use Rattle.rota_table.proofs.fields.worked_slots.Given as goal

abbrev pub invariant-loop-b : goal.invariant-loop-b
invariant-loop-b l = l.left ≡ fold (λ left b. left - b.len) l.len (take l.b-index l.breaks)
