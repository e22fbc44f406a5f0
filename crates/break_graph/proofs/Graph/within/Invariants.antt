use Rattle.break_graph.proofs.Common.{◌≡◌, ◌≤◌, length, AreDrafted}
use Rattle.break_graph.proofs.Embedding.{edges_in}
use Rattle.break_graph.proofs.Graph.within.Given as goal

abbrev pub invariant-loop-place : goal.invariant-loop-place
invariant-loop-place l = record {
  within : edges_in l.graph ≤ l.most_edges;
  many : length l.numbers.items ≡ l.place;
  few : length l.graph ≤ l.place;
  drafted : AreDrafted l.rule l.len l.place l.graph l.numbers.items;
}
