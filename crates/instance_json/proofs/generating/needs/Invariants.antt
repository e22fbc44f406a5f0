use Rattle.instance_json.proofs.Common.{◌≡◌, state_after, draws_before, needs_of}
use Rattle.instance_json.proofs.generating.needs.Given as goal

abbrev pub invariant-loop-slot : goal.invariant-loop-slot
invariant-loop-slot l = record {
  state : l.draws.state ≡ state_after l.number (draws_before l.slot);
  needs : l.needs.items ≡ needs_of l.number l.slot;
}
