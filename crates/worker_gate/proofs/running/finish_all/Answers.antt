use Rattle.worker_gate.proofs.Common.{◌∙◌, arith, ap, length, refl, root_at}
use Rattle.worker_gate.proofs.Moved.{written}
use Rattle.worker_gate.proofs.Telling.{first_then}
use Rattle.worker_gate.proofs.News.{each_then_first, tells_on, tells_same, told_at, Tells}
use Rattle.worker_gate.proofs.running.finish_all.Goals as goal

pub returns-clause-told : goal.returns-clause-told
returns-clause-told g c =
    let items = c.args.bench.now.items in
    let zs = c.empty_all.new.bench in
    let many = c.empty_all.ensures.len ∙ ap length c.as_mut_slice.ensures.value in
    let same = written c.args.bench.now.len items zs (omega (arith, c.args.bench.now.ok)) many in
    let first = rw c.as_mut_slice.ensures.value at c.empty_all.ensures.told in
    let here = rw same at c.index_mut.ensures.value in
    let all = first_then (λ p. (goal.Adviser-dyn g (p.seat.adviser.vtable, p.seat.adviser.value)).told p.seat.adviser.value) (λ p. p.seat.told) items zs c.index_mut.result.now c.go_on.new.place many first here c.go_on.ensures.told in
    λ i d low. rw same (all i d (omega (arith, low, c.args.bench.now.ok)))

pub returns-clause-last : goal.returns-clause-last
returns-clause-last g c =
    let items = c.args.bench.now.items in
    let zs = c.empty_all.new.bench in
    let many = c.empty_all.ensures.len ∙ ap length c.as_mut_slice.ensures.value in
    let same = written c.args.bench.now.len items zs (omega (arith, c.args.bench.now.ok)) many in
    let first = rw c.as_mut_slice.ensures.value at c.empty_all.ensures.last in
    let here = rw same at c.index_mut.ensures.value in
    let more = told_at g.B.Board.seen (root_at c.args.noted.now.held.opened c.args.noted.now.held.workers) (root_at c.empty_all.new.noted.held.opened c.empty_all.new.noted.held.workers) 0 0
    c.index_mut.result.now.seat.told c.go_on.new.place.seat.told
    ((goal.Adviser-dyn g (c.index_mut.result.now.seat.adviser.vtable, c.index_mut.result.now.seat.adviser.value)).last c.index_mut.result.now.seat.adviser.value)
    ((goal.Adviser-dyn g (c.go_on.new.place.seat.adviser.vtable, c.go_on.new.place.seat.adviser.value)).last c.go_on.new.place.seat.adviser.value)
    c.empty_all.ensures.root refl c.go_on.ensures.last in
    let all = each_then_first (Tells (λ p. p.seat.told) (λ p. (goal.Adviser-dyn g (p.seat.adviser.vtable, p.seat.adviser.value)).last p.seat.adviser.value) c.args.noted.now.held.workers (g.B.Board.seen c.args.noted.now.held.opened.value)) (tells_on (λ p. p.seat.told) (λ p. (goal.Adviser-dyn g (p.seat.adviser.vtable, p.seat.adviser.value)).last p.seat.adviser.value) c.args.noted.now.held.workers (g.B.Board.seen c.args.noted.now.held.opened.value))
    items zs c.index_mut.result.now c.go_on.new.place (tells_same (λ p. p.seat.told) (λ p. (goal.Adviser-dyn g (p.seat.adviser.vtable, p.seat.adviser.value)).last p.seat.adviser.value) c.args.noted.now.held.workers (g.B.Board.seen c.args.noted.now.held.opened.value)) many first here more in
    λ i d low. rw same (all i d (omega (arith, low, c.args.bench.now.ok)))

pub saw_stop-asked-requires : goal.saw_stop-asked-requires
saw_stop-asked-requires g c = rw c.as_slice.ensures.value (record { asked = λ i d low is. c.requires.asked i d (omega (arith, low, c.args.bench.now.ok)) is })
