use Rattle.cert_check.proofs.Common.{◌≡◌, ◌-◌, ◌+◌, ◌≤◌, ◌∷◌, [], length, new_node, nodes_after, nodes_of, line_cause}
use Rattle.cert_check.proofs.judging.judge_lines.Given as goal

abbrev pub invariant-loop-memory : goal.invariant-loop-memory
invariant-loop-memory l = record {
  nodes : nodes_after l.instance l.tree l.reader ≡ nodes_of l.instance l.lines;
  causes : line_cause l.instance l.tree (length l.lines - length l.reader + 1) l.reader ≡ line_cause l.instance (new_node [] ∷ []) 1 l.lines;
  few : length l.reader ≤ length l.lines;
  memory : l.memory ≡ l.instance;
}

abbrev pub decreases-loop-memory : goal.decreases-loop-memory
decreases-loop-memory l = length l.reader
