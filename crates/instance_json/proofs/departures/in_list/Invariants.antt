use Rattle.instance_json.proofs.Common.{◌≡◌, ◌+◌, map, drop, enumerate_from, view, first_some, type_departure}
use Rattle.instance_json.proofs.departures.in_list.Given as goal

abbrev pub invariant-loop-value : goal.invariant-loop-value
invariant-loop-value l =
    (l.at ≡ l.value-index)
    × (first_some (map type_departure (enumerate_from (l.at + 1) (map view (drop l.value-index l.list)))) ≡ first_some (map type_departure (enumerate_from 1 (map view l.list))))
