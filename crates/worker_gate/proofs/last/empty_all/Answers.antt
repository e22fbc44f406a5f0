use Rattle.worker_gate.proofs.Common.{◌≡◌, ◌<◌, ◌+◌, ◌^◌, None, length, slice_index_or, slice_set, arith, ap, ◌∙◌, sym, subst, hand, root_at, KnowsBoard}
use Rattle.worker_gate.proofs.Hands.{all_emptied, emptied_more}
use Rattle.worker_gate.proofs.Pointwise.{any_default, set_each}
use Rattle.worker_gate.proofs.News.{set_more, tells_on, told_at, Tells}
use Rattle.worker_gate.proofs.last.empty_all.Goals as goal

pub empty_hand-requires : goal.empty_hand-requires
empty_hand-requires g c =
    let i = c.loop-place.invariant in
    let at = c.loop-place.place-index in
    let low : at < length c.loop-place.bench = omega (arith, c.loop-place-test.true) in
    let number = i.numbers at c.place-item.result low in
    let within : at < c.args.noted.now.held.workers = omega (arith, low, c.requires.all, c.loop-place.auto.bench) in
    let knows = c.requires.knows at within in
    record {
      knows = subst (λ n. KnowsBoard g.B.Board.seen c.args.instance.now n (root_at c.loop-place.noted.held.opened c.loop-place.noted.held.workers)) (sym number)
          (subst (λ r. KnowsBoard g.B.Board.seen c.args.instance.now at r) (sym i.root) knows);
      buffers = i.buffers ∙ c.requires.buffers;
    }

pub loop-place-preserved : goal.loop-place-preserved
loop-place-preserved g c =
    let i = c.loop-place.invariant in
    let at = c.loop-place.place-index in
    let e = c.empty_hand.ensures in
    let before = (g.B.Board.seen c.loop-place.noted.held.board).hands in
    let after = (g.B.Board.seen c.empty_hand.new.noted.held.board).hands in
    let low : at < length c.loop-place.bench = omega (arith, c.loop-place-test.true) in
    let number = i.numbers at c.place-item.result low in
    record {
      root = e.root ∙ i.root;
      buffers = e.buffers ∙ i.buffers;
      keeps = e.keeps ∙ i.keeps;
      passed = λ still w near. subst (λ hands. hand hands w ≡ None) (sym (e.emptied still ∙ ap (λ n. slice_set before n None) number)) (emptied_more before at (i.passed (e.running still)) w near);
      numbers = set_each (λ j d p. p.number ≡ j) c.loop-place.bench at c.empty_hand.new.place (λ d. e.number ∙ number) i.numbers;
      told = set_each
          (λ j d p. (goal.Adviser-dyn g ((slice_index_or c.args.bench.now j d).seat.adviser.vtable, (slice_index_or c.args.bench.now j d).seat.adviser.value)).told (slice_index_or c.args.bench.now j d).seat.adviser.value < 2 ^ 63 + (slice_index_or c.args.bench.now j d).seat.told
          → (goal.Adviser-dyn g (p.seat.adviser.vtable, p.seat.adviser.value)).told p.seat.adviser.value + (slice_index_or c.args.bench.now j d).seat.told
          ≡ (goal.Adviser-dyn g ((slice_index_or c.args.bench.now j d).seat.adviser.vtable, (slice_index_or c.args.bench.now j d).seat.adviser.value)).told (slice_index_or c.args.bench.now j d).seat.adviser.value + p.seat.told)
          c.loop-place.bench at c.empty_hand.new.place
          (λ d less.
          let same = any_default c.loop-place.bench at d c.place-item.result low in
          let a = subst (λ p. (goal.Adviser-dyn g (p.seat.adviser.vtable, p.seat.adviser.value)).told p.seat.adviser.value + (slice_index_or c.args.bench.now at d).seat.told
          ≡ (goal.Adviser-dyn g ((slice_index_or c.args.bench.now at d).seat.adviser.vtable, (slice_index_or c.args.bench.now at d).seat.adviser.value)).told (slice_index_or c.args.bench.now at d).seat.adviser.value + p.seat.told)
          same (i.told at d low less) in
          let b = e.told (omega (arith, a, less)) in
          omega (arith, a, b))
          i.told;
      last = set_more (Tells (λ p. p.seat.told) (λ p. (goal.Adviser-dyn g (p.seat.adviser.vtable, p.seat.adviser.value)).last p.seat.adviser.value) c.args.noted.now.held.workers (g.B.Board.seen c.args.noted.now.held.opened.value)) (tells_on (λ p. p.seat.told) (λ p. (goal.Adviser-dyn g (p.seat.adviser.vtable, p.seat.adviser.value)).last p.seat.adviser.value) c.args.noted.now.held.workers (g.B.Board.seen c.args.noted.now.held.opened.value))
          c.args.bench.now c.loop-place.bench at c.place-item.result c.empty_hand.new.place low i.last
          (told_at g.B.Board.seen (root_at c.args.noted.now.held.opened c.args.noted.now.held.workers) (root_at c.loop-place.noted.held.opened c.loop-place.noted.held.workers) at (slice_index_or c.loop-place.bench at c.place-item.result).number
          (slice_index_or c.loop-place.bench at c.place-item.result).seat.told c.empty_hand.new.place.seat.told
          ((goal.Adviser-dyn g ((slice_index_or c.loop-place.bench at c.place-item.result).seat.adviser.vtable, (slice_index_or c.loop-place.bench at c.place-item.result).seat.adviser.value)).last (slice_index_or c.loop-place.bench at c.place-item.result).seat.adviser.value)
          ((goal.Adviser-dyn g (c.empty_hand.new.place.seat.adviser.vtable, c.empty_hand.new.place.seat.adviser.value)).last c.empty_hand.new.place.seat.adviser.value)
          i.root number e.last);
    }

pub returns-clause-empty : goal.returns-clause-empty
returns-clause-empty g c = λ still.
    let held = c.loop-place.noted.held in
    let i = c.loop-place.invariant in
    let workers = ap (λ r. r.workers) i.root in
    all_emptied held.workers (g.B.Board.seen held.opened.value) (g.B.Board.seen held.board) held.commits.total held.empty (g.met.B.Board.sound held.board) held.turns
    (λ w low. i.passed still w (omega (arith, low, workers, c.requires.all, c.loop-place.auto.bench, c.loop-place-test.false)))

pub returns-clause-last : goal.returns-clause-last
returns-clause-last g c = λ i d low. c.loop-place.invariant.last i d (omega (arith, low, c.loop-place.auto.bench))
