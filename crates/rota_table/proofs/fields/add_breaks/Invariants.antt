use Rattle.rota_table.proofs.Common.{◌≡◌, ◌++◌, map, take, string_bytes, flat_map, break_fields}
use Rattle.rota_table.proofs.fields.add_breaks.Given as goal

abbrev pub invariant-loop-b : goal.invariant-loop-b
invariant-loop-b l =
    map string_bytes l.fields.items ≡ map string_bytes l.fn.fields.items ++ flat_map (break_fields l.instance l.start) (take l.b-index l.breaks)
