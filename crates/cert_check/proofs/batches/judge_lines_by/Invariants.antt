use Rattle.cert_check.proofs.Common.{◌≡◌, ◌-◌, ◌+◌, ◌≤◌, ◌∷◌, [], length, new_node, nodes_after, nodes_of, line_cause}
use Rattle.cert_check.proofs.batches.judge_lines_by.Given as goal

abbrev pub invariant-loop-reader : goal.invariant-loop-reader
invariant-loop-reader g l = record {
  nodes : nodes_after l.instance l.tree l.reader ≡ nodes_of l.instance l.lines;
  causes : line_cause l.instance l.tree (length l.lines - length l.reader + 1) l.reader ≡ line_cause l.instance (new_node [] ∷ []) 1 l.lines;
  few : length l.reader ≤ length l.lines;
  memory : l.memory ≡ l.instance;
}

abbrev pub decreases-loop-reader : goal.decreases-loop-reader
decreases-loop-reader g l = length l.reader
