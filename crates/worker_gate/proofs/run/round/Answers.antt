use Rattle.worker_gate.proofs.Common.{sym, subst, Problem, BoardView, Fits}
use Rattle.worker_gate.proofs.Runs.{closes_step, cut_off, decides_before, holds_step, round_tells}
use Rattle.worker_gate.proofs.run.round.Goals as goal

pub commit_step-kept-requires-clause-holds : goal.commit_step-kept-requires-clause-holds
commit_step-kept-requires-clause-holds g c =
    let before : BoardView = g.B.Board.seen c.args.board.now in
    let held : BoardView = g.B.Board.seen c.take_node.new.board in
    let t = c.in-Ok.taken in
    let takes = c.in-Ok.ensures.takes in
    let d = c.in-Ok-decide_taken.ensures.decision in
    let decides = decides_before before held t.node t.floor t.best c.requires.idle takes c.args.instance.now d.0 c.in-Ok-decide_taken.step c.requires.instance d.1 in
    holds_step before held t.node t.floor t.best c.requires.idle takes d.0 c.in-Ok-decide_taken.step decides

pub commit_step-kept-requires-clause-closes : goal.commit_step-kept-requires-clause-closes
commit_step-kept-requires-clause-closes g c is =
    let before : BoardView = g.B.Board.seen c.args.board.now in
    let held : BoardView = g.B.Board.seen c.take_node.new.board in
    let t = c.in-Ok.taken in
    let takes = c.in-Ok.ensures.takes in
    let d = c.in-Ok-decide_taken.ensures.decision in
    let step = c.in-Ok-decide_taken.step in
    let decides = decides_before before held t.node t.floor t.best c.requires.idle takes c.args.instance.now d.0 step c.requires.instance d.1 in
    let fits : Fits before.instance step = subst (λ (j : Problem). Fits j step) (sym c.requires.instance) c.in-Ok-decide_taken.ensures.fits in
    closes_step before held t.node t.floor t.best c.requires.idle takes d.0 step decides fits is

pub returns-in-Ok-kept-clause-tells : goal.returns-in-Ok-kept-clause-tells
returns-in-Ok-kept-clause-tells g c =
    let before : BoardView = g.B.Board.seen c.args.board.now in
    let held : BoardView = g.B.Board.seen c.take_node.new.board in
    let t = c.in-Ok.taken in
    let takes = c.in-Ok.ensures.takes in
    let d = c.in-Ok-decide_taken.ensures.decision in
    let step = c.in-Ok-decide_taken.step in
    let decides = decides_before before held t.node t.floor t.best c.requires.idle takes c.args.instance.now d.0 step c.requires.instance d.1 in
    round_tells before held t.node t.floor t.best c.requires.idle takes d.0 step decides (g.B.Board.seen c.commit_step-kept.new.board) c.in-Ok-kept.kept
    ((goal.Adviser-dyn g (c.tell.new.self.adviser.vtable, c.tell.new.self.adviser.value)).last c.tell.new.self.adviser.value) c.keeps_sound.ensures c.in-Ok-kept.ensures.commits c.tell.ensures.last

pub returns-in-Err-kept-clause-round : goal.returns-in-Err-kept-clause-round
returns-in-Err-kept-clause-round g c =
    let before : BoardView = g.B.Board.seen c.args.board.now in
    let held : BoardView = g.B.Board.seen c.take_node.new.board in
    let t = c.in-Ok.taken in
    let takes = c.in-Ok.ensures.takes in
    let d = c.in-Ok-decide_taken.ensures.decision in
    let step = c.in-Ok-decide_taken.step in
    let decides = decides_before before held t.node t.floor t.best c.requires.idle takes c.args.instance.now d.0 step c.requires.instance d.1 in
    cut_off before held t.node t.floor t.best c.requires.idle takes d.0 step decides (g.B.Board.seen c.commit_step-kept.new.board) c.in-Err-kept.end c.keeps_sound.ensures c.in-Err-kept.ensures.cut_off

pub returns-in-Err-kept-clause-tells : goal.returns-in-Err-kept-clause-tells
returns-in-Err-kept-clause-tells g c =
    let before : BoardView = g.B.Board.seen c.args.board.now in
    let held : BoardView = g.B.Board.seen c.take_node.new.board in
    let t = c.in-Ok.taken in
    let takes = c.in-Ok.ensures.takes in
    let d = c.in-Ok-decide_taken.ensures.decision in
    let step = c.in-Ok-decide_taken.step in
    let decides = decides_before before held t.node t.floor t.best c.requires.idle takes c.args.instance.now d.0 step c.requires.instance d.1 in (
      cut_off before held t.node t.floor t.best c.requires.idle takes d.0 step decides (g.B.Board.seen c.commit_step-kept.new.board) c.in-Err-kept.end c.keeps_sound.ensures c.in-Err-kept.ensures.cut_off,
      c.decide_taken.ensures.last,
    )
