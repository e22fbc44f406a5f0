use Rattle.std.proofs.Common.{◌≡◌, map, take, string_bytes}
use Rattle.table_records.proofs.records.bytes_of.Given as goal

abbrev pub invariant-loop-text : goal.invariant-loop-text
invariant-loop-text l = map (λ f. f.now) l.fields.items ≡ map string_bytes (take l.text-index l.texts)
