use Rattle.instance_json.proofs.Common.{◌≡◌, ◌++◌, map, drop, view, number_data}
use Rattle.instance_json.proofs.text.number_values.Given as goal

abbrev pub invariant-loop-number : goal.invariant-loop-number
invariant-loop-number l = map view l.values.items ++ map number_data (drop l.number-index l.list) ≡ map number_data l.list
