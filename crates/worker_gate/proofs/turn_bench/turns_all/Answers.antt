use Rattle.worker_gate.proofs.Common.{◌<◌, arith, length, slice_index_or, subst, sym, BoardRoot, HasTurns, KnowsBoard}
use Rattle.worker_gate.proofs.turn_bench.turns_all.Goals as goal

pub for_each_mut-requires-clause-accepts : goal.for_each_mut-requires-clause-accepts
for_each_mut-requires-clause-accepts g c κs within i p low e =
    subst (λ q. (root : BoardRoot g.row.B.Denot) × HasTurns c.args.lock.now q.number root q.chair × KnowsBoard g.B.Board.seen c.args.instance.now q.number root) (sym e) (c.requires.rest.0, (c.requires.rest.1 i p.now low).0, (c.requires.rest.1 i p.now low).1)

pub returns-clause-rest : goal.returns-clause-rest
returns-clause-rest g c = λ root rests i d low.
    let within : i < length c.args.bench.now = omega (arith, low, c.for_each_mut.auto.s) in
    let k = (c.for_each_mut.ensures i d within).1 in
    let rest = subst (λ q. HasTurns c.args.lock.now q.number root q.chair) (sym k.argument_is) (rests i d within) in
    let number = rw k.argument_is at k.call.0 in
    let same = rw k.left at number in
    let after = rw k.argument_is at (k.call.1.0 root rest) in
    let here = rw k.left at after in
    subst (λ n. HasTurns c.args.lock.now n root (slice_index_or c.for_each_mut.new.s i d).chair) (sym same) here

pub returns-clause-last : goal.returns-clause-last
returns-clause-last g c = λ root rests i d low.
    let k = (c.for_each_mut.ensures i d low).1 in
    let rest = subst (λ q. HasTurns c.args.lock.now q.number root q.chair) (sym k.argument_is) (rests i d low) in
    let told = k.call.1.1.1.0 root rest in
    let before = rw k.argument_is at told in
    rw k.left at before
