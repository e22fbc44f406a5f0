use Rattle.worker_gate.proofs.Common.{◌∙◌, arith, length, ap}
use Rattle.worker_gate.proofs.Moved.{written}
use Rattle.worker_gate.proofs.turn_bench.turns_bench.Goals as goal

pub turns_all-requires-clause-rest : goal.turns_all-requires-clause-rest
turns_all-requires-clause-rest g c κs within = (c.args._root.now, rw c.as_mut_slice.ensures.value c.requires.rest)

pub returns-clause-rest : goal.returns-clause-rest
returns-clause-rest g c =
    let same = written c.args.bench.now.len c.args.bench.now.items c.turns_all.new.bench (omega (arith, c.args.bench.now.ok)) (c.turns_all.auto.bench ∙ ap length c.as_mut_slice.ensures.value) in
    let rest = rw c.as_mut_slice.ensures.value at c.turns_all.ensures.rest in
    rw same (rest c.args._root.now (λ i d low. (c.requires.rest i d low).0))

pub returns-clause-numbers : goal.returns-clause-numbers
returns-clause-numbers g c =
    let same = written c.args.bench.now.len c.args.bench.now.items c.turns_all.new.bench (omega (arith, c.args.bench.now.ok)) (c.turns_all.auto.bench ∙ ap length c.as_mut_slice.ensures.value) in
    let numbers = rw c.as_mut_slice.ensures.value at c.turns_all.ensures.numbers in
    λ i d low. rw same (numbers i d (omega (arith, low, c.args.bench.now.ok)))

pub returns-clause-told : goal.returns-clause-told
returns-clause-told g c =
    let same = written c.args.bench.now.len c.args.bench.now.items c.turns_all.new.bench (omega (arith, c.args.bench.now.ok)) (c.turns_all.auto.bench ∙ ap length c.as_mut_slice.ensures.value) in
    let told = rw c.as_mut_slice.ensures.value at c.turns_all.ensures.told in
    λ i d low. rw same (told i d (omega (arith, low, c.args.bench.now.ok)))

pub returns-clause-last : goal.returns-clause-last
returns-clause-last g c =
    let same = written c.args.bench.now.len c.args.bench.now.items c.turns_all.new.bench (omega (arith, c.args.bench.now.ok)) (c.turns_all.auto.bench ∙ ap length c.as_mut_slice.ensures.value) in
    let last = rw c.as_mut_slice.ensures.value at c.turns_all.ensures.last in
    λ i d low. rw same (last c.args._root.now (λ j e near. (c.requires.rest j e near).0) i d (omega (arith, low, c.args.bench.now.ok)))

pub returns-clause-asked : goal.returns-clause-asked
returns-clause-asked g c =
    let same = written c.args.bench.now.len c.args.bench.now.items c.turns_all.new.bench (omega (arith, c.args.bench.now.ok)) (c.turns_all.auto.bench ∙ ap length c.as_mut_slice.ensures.value) in
    let asked = rw c.as_mut_slice.ensures.value at c.turns_all.ensures.asked in
    λ i d low. rw same (asked i d (omega (arith, low, c.args.bench.now.ok)))
