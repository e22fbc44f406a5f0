use Rattle.worker_gate.proofs.Common.{◌≡◌, ◌<◌, ◌+◌, arith, ap, ◌∙◌}
use Rattle.worker_gate.proofs.Hands.{budget_merely}
use Rattle.worker_gate.proofs.Rounds.{some_free}
use Rattle.worker_gate.proofs.last.go_on.Goals as goal

pub loop-noted-smaller : goal.loop-noted-smaller
loop-noted-smaller g c =
    let before = c.loop-noted.noted.held in
    let after = c.finish_node.new.noted.held in
    let makes = c.in-Node.ensures.makes in
    let left : (g.B.Board.seen before.board).taken < (g.B.Board.seen before.board).budget = makes.0.step_left in
    let took : (g.B.Board.seen c.take.new.self.held.board).taken ≡ (g.B.Board.seen before.board).taken + 1 = ap (λ v. v.taken) makes.4 in
    let taken : (g.B.Board.seen after.board).taken ≡ (g.B.Board.seen c.take.new.self.held.board).taken = c.finish_node.ensures.taken in
    let same : (g.B.Board.seen after.opened.value).budget ≡ (g.B.Board.seen before.opened.value).budget = ap (λ r. (g.B.Board.seen r.opened.value).budget) (c.finish_node.ensures.root ∙ c.take.ensures.root) in
    let opened : (g.B.Board.seen before.board).budget ≡ (g.B.Board.seen before.opened.value).budget =
    budget_merely before.workers (g.B.Board.seen before.opened.value) (g.B.Board.seen before.board) before.commits.total before.turns in
    omega (arith, left, took, taken, same, opened)

pub unreachable-requires-in-Idle : goal.unreachable-requires-in-Idle
unreachable-requires-in-Idle g c =
    let makes = c.in-Idle.ensures.makes in
    some_free (g.B.Board.seen c.loop-noted.noted.held.board) makes.0.unfinished makes.1 (c.loop-noted.invariant.empty makes.0.running)
