use Rattle.rota_table.proofs.Common.{◌≡◌, ◌++◌, replicate, flat_map, duty_record}
use Rattle.shift_instance.specs.Rota.{duty_of}
use Rattle.rota_table.proofs.lines.with_row.Given as goal

abbrev pub invariant-loop : goal.invariant-loop
invariant-loop l = l.records ≡ l.fn.records ++ flat_map (duty_record l.instance l.names l.most) (replicate l.counter (duty_of l.row))
