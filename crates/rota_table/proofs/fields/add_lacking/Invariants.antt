use Rattle.rota_table.proofs.Common.{◌≡◌, ◌++◌, map, string_bytes, flat_map, below, lacking_fields}
use Rattle.rota_table.proofs.fields.add_lacking.Given as goal

abbrev pub invariant-loop : goal.invariant-loop
invariant-loop l = map string_bytes l.fields.items ≡ map string_bytes l.fn.fields.items ++ flat_map lacking_fields (below l.counter)
