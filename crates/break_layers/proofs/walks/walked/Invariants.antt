use Rattle.break_layers.proofs.Common.{◌≡◌, true, take, spot_of, is_walk}
use Rattle.break_layers.proofs.walks.walked.Given as goal

abbrev pub invariant-loop-stop : goal.invariant-loop-stop
invariant-loop-stop l = record {
  walk : is_walk l.rule l.len (take l.stop-index l.front) ≡ true;
  spot : l.spot ≡ spot_of l.rule (take l.stop-index l.front);
}
