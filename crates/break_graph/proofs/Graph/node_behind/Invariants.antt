use Rattle.break_graph.proofs.Common.{◌<◌, ℕ, length, take, Rule, IsGraph, StandsAt}
use Rattle.break_graph.proofs.Graph.node_behind.Given as goal

abbrev pub invariant-loop-stop : goal.invariant-loop-stop
invariant-loop-stop l = record {
  within : l.at < length l.self;
  stands : (rule : Rule) (len : ℕ) → IsGraph rule len l.self → StandsAt rule len l.self l.at (take l.stop-index l.front);
}
