use Rattle.instance_json.proofs.Common.{◌≡◌, ◌++◌, map, drop, view, total_data}
use Rattle.instance_json.proofs.text.total_values.Given as goal

abbrev pub invariant-loop-entry : goal.invariant-loop-entry
invariant-loop-entry l = map view l.values.items ++ map total_data (drop l.entry-index l.list) ≡ map total_data l.list
