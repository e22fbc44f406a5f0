use Rattle.worker_gate.proofs.Common.{◌∙◌, arith, length, ap}
use Rattle.worker_gate.proofs.Moved.{written}
use Rattle.worker_gate.proofs.bench.work_bench.Goals as goal

pub returns-clause-numbers : goal.returns-clause-numbers
returns-clause-numbers g c =
    let same = written c.args.bench.now.len c.args.bench.now.items c.work_all.new.bench (omega (arith, c.args.bench.now.ok)) (c.work_all.auto.bench ∙ ap length c.as_mut_slice.ensures.value) in
    let numbers = rw c.as_mut_slice.ensures.value at c.work_all.ensures.numbers in
    λ i d low. rw same (numbers i d (omega (arith, low, c.args.bench.now.ok)))

pub returns-clause-told : goal.returns-clause-told
returns-clause-told g c =
    let same = written c.args.bench.now.len c.args.bench.now.items c.work_all.new.bench (omega (arith, c.args.bench.now.ok)) (c.work_all.auto.bench ∙ ap length c.as_mut_slice.ensures.value) in
    let told = rw c.as_mut_slice.ensures.value at c.work_all.ensures.told in
    λ i d low. rw same (told i d (omega (arith, low, c.args.bench.now.ok)))

pub returns-clause-last : goal.returns-clause-last
returns-clause-last g c =
    let same = written c.args.bench.now.len c.args.bench.now.items c.work_all.new.bench (omega (arith, c.args.bench.now.ok)) (c.work_all.auto.bench ∙ ap length c.as_mut_slice.ensures.value) in
    let last = rw c.as_mut_slice.ensures.value at c.work_all.ensures.last in
    λ root rests i d low. rw same (last root rests i d (omega (arith, low, c.args.bench.now.ok)))

pub returns-clause-asked : goal.returns-clause-asked
returns-clause-asked g c =
    let same = written c.args.bench.now.len c.args.bench.now.items c.work_all.new.bench (omega (arith, c.args.bench.now.ok)) (c.work_all.auto.bench ∙ ap length c.as_mut_slice.ensures.value) in
    let asked = rw c.as_mut_slice.ensures.value at c.work_all.ensures.asked in
    λ i d low. rw same (asked i d (omega (arith, low, c.args.bench.now.ok)))

pub work_all-requires-clause-rest : goal.work_all-requires-clause-rest
work_all-requires-clause-rest g c κs within = (c.requires.rest.0, rw c.as_mut_slice.ensures.value c.requires.rest.1)
