use Rattle.instance_json.proofs.Common.{◌≡◌, ◌++◌, map, drop, view, lunch_data}
use Rattle.instance_json.proofs.text.lunch_values.Given as goal

abbrev pub invariant-loop-entry : goal.invariant-loop-entry
invariant-loop-entry l = map view l.values.items ++ map lunch_data (drop l.entry-index l.list) ≡ map lunch_data l.list
