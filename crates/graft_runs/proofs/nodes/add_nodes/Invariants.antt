use Rattle.graft_runs.proofs.Common.{◌≡◌, ◌++◌, take, string_bytes, map, lines_text, open_line}
use Rattle.graft_runs.proofs.nodes.add_nodes.Given as goal

abbrev pub invariant-loop-next : goal.invariant-loop-next
invariant-loop-next l = string_bytes l.text ≡ string_bytes l.fn.text ++ lines_text (map open_line (take l.next-index l.list))
