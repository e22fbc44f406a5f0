use Rattle.instance_json.proofs.Common.{◌≡◌, ◌++◌, map, drop, view, kind_of}
use Rattle.instance_json.proofs.document.types.Given as goal

abbrev pub invariant-loop-value : goal.invariant-loop-value
invariant-loop-value l = l.types.items ++ map (λ x. kind_of (view x)) (drop l.value-index l.list) ≡ map (λ x. kind_of (view x)) l.list
