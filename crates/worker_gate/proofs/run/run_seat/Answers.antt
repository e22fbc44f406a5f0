use Rattle.worker_gate.proofs.Common.{◌≡◌, ◌∙◌, arith, refl, rules, subst, sym, Option, None, Some, MatchOption, BoardView, RunEnd, committed, IsRun}
use Rattle.worker_gate.proofs.Runs.{next_run, next_told, run_enough, run_few, run_posts, run_tells, start_run, start_told, IsToldRun}
use Rattle.worker_gate.proofs.run.run_seat.Goals as goal

pub loop-end-init : goal.loop-end-init
loop-end-init g c = record {
  run = start_run (g.B.Board.seen c.args.board.now) c.requires.fresh (record { running = c.requires.running; going = c.requires.going; empty = c.requires.empty });
  share = c.requires.share ∙ sym c.requires.fresh;
  each = c.requires.told ∙ sym c.requires.share;
  tells = start_told (g.B.Board.seen c.args.board.now) ((goal.Adviser-dyn g (c.args.seat.now.adviser.vtable, c.args.seat.now.adviser.value)).last c.args.seat.now.adviser.value) c.requires.fresh;
  stopped = tt;
  buffers = c.new-buffers.ensures.instance;
  told = λ low. refl;
}

pub loop-end-preserved : goal.loop-end-preserved
loop-end-preserved g c =
    let before : BoardView = g.B.Board.seen c.args.board.now in
    let now : BoardView = g.B.Board.seen c.loop-end.board in
    let after : BoardView = g.B.Board.seen c.round-end.new.board in
    let i = c.loop-end.invariant in
    let e = c.round-end.ensures in
    let going : c.loop-end.end ≡ None = search rules in
    let run : IsRun before now None = subst (λ (o : Option RunEnd). IsRun before now o) going i.run in
    let first = (goal.Adviser-dyn g (c.args.seat.now.adviser.vtable, c.args.seat.now.adviser.value)).last c.args.seat.now.adviser.value in
    let earlier = (goal.Adviser-dyn g (c.loop-end.seat.adviser.vtable, c.loop-end.seat.adviser.value)).last c.loop-end.seat.adviser.value in
    let later = (goal.Adviser-dyn g (c.round-end.new.seat.adviser.vtable, c.round-end.new.seat.adviser.value)).last c.round-end.new.seat.adviser.value in
    record {
      run = next_run before now after c.round-end.result run e.round;
      share = e.share;
      each = e.each;
      tells = next_told before now after c.round-end.result first earlier later (subst (λ (o : Option RunEnd). IsToldRun before now o first earlier) going i.tells) e.tells;
      stopped = e.stopped;
      buffers = e.buffers ∙ i.buffers;
      told = λ low.
          let a = i.told low in
          let b = e.told (omega (arith, a, low)) in
          omega (arith, a, b);
    }

pub round-end-requires-clause-budget : goal.round-end-requires-clause-budget
round-end-requires-clause-budget g c =
    let before : BoardView = g.B.Board.seen c.args.board.now in
    let now : BoardView = g.B.Board.seen c.loop-end.board in
    omega (arith, c.loop-end.invariant.run.same.budget, c.requires.budget)

pub returns-clause-posts : goal.returns-clause-posts
returns-clause-posts g c =
    let before : BoardView = g.B.Board.seen c.args.board.now in
    let after : BoardView = g.B.Board.seen c.loop-end.board in
    let run : IsRun before after (Some c.in-Some.end) = subst (λ (o : Option RunEnd). IsRun before after o) c.in-Some.is c.loop-end.invariant.run in
    run_posts before after c.in-Some.end c.keeps_sound.ensures.book c.keeps_sound.ensures.folds run

pub returns-clause-few : goal.returns-clause-few
returns-clause-few g c =
    let before : BoardView = g.B.Board.seen c.args.board.now in
    let after : BoardView = g.B.Board.seen c.loop-end.board in
    let run : IsRun before after (Some c.in-Some.end) = subst (λ (o : Option RunEnd). IsRun before after o) c.in-Some.is c.loop-end.invariant.run in
    run_few before after c.in-Some.end c.keeps_sound.ensures.book c.keeps_sound.ensures.folds run

pub returns-clause-enough : goal.returns-clause-enough
returns-clause-enough g c =
    let before : BoardView = g.B.Board.seen c.args.board.now in
    let after : BoardView = g.B.Board.seen c.loop-end.board in
    let run : IsRun before after (Some c.in-Some.end) = subst (λ (o : Option RunEnd). IsRun before after o) c.in-Some.is c.loop-end.invariant.run in
    run_enough before after c.in-Some.end c.keeps_sound.ensures.book c.keeps_sound.ensures.folds run

pub returns-clause-last : goal.returns-clause-last
returns-clause-last g c =
    let before : BoardView = g.B.Board.seen c.args.board.now in
    let after : BoardView = g.B.Board.seen c.loop-end.board in
    let first = (goal.Adviser-dyn g (c.args.seat.now.adviser.vtable, c.args.seat.now.adviser.value)).last c.args.seat.now.adviser.value in
    let later = (goal.Adviser-dyn g (c.loop-end.seat.adviser.vtable, c.loop-end.seat.adviser.value)).last c.loop-end.seat.adviser.value in
    run_tells before after c.in-Some.end first later (subst (λ (o : Option RunEnd). IsToldRun before after o first later) c.in-Some.is c.loop-end.invariant.tells)

pub returns-clause-share : goal.returns-clause-share
returns-clause-share g c =
    let taken = (g.B.Board.seen c.loop-end.board).taken in
    let share = c.loop-end.seat.share in
    let all : MatchOption (Some c.in-Some.end) (share ≡ taken) (λ end. share ≡ committed end taken) =
    subst (λ (o : Option RunEnd). MatchOption o (share ≡ taken) (λ end. share ≡ committed end taken)) c.in-Some.is c.loop-end.invariant.share in
    all
