use Rattle.instance_json.proofs.Common.{◌≡◌, ◌++◌, map, drop, view, kind_data}
use Rattle.instance_json.proofs.text.type_values.Given as goal

abbrev pub invariant-loop-parts : goal.invariant-loop-parts
invariant-loop-parts l = map view l.values.items ++ map kind_data (drop l.parts-index l.list) ≡ map kind_data l.list
