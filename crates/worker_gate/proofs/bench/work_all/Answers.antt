use Rattle.worker_gate.proofs.Common.{subst, sym, BoardRoot, HasBadge, KnowsBoard}
use Rattle.worker_gate.proofs.bench.work_all.Goals as goal

pub for_each_mut-requires-clause-accepts : goal.for_each_mut-requires-clause-accepts
for_each_mut-requires-clause-accepts g c κs within i p low e =
    subst (λ q. (root : BoardRoot g.row.B.Denot) × HasBadge c.args.lock.now root q.chair × KnowsBoard g.B.Board.seen c.args.instance.now q.number root) (sym e) (c.requires.rest.0, (c.requires.rest.1 i p.now low).0, (c.requires.rest.1 i p.now low).1)

pub returns-clause-last : goal.returns-clause-last
returns-clause-last g c = λ root rests i d low.
    let k = (c.for_each_mut.ensures i d low).1 in
    let rest = subst (λ q. HasBadge c.args.lock.now root q.chair) (sym k.argument_is) (rests i d low) in
    let told = k.call.1.1.0 root rest in
    let before = rw k.argument_is at told in
    rw k.left at before
