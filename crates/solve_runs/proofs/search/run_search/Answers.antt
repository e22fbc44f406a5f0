use Rattle.solve_runs.proofs.Common.{◌∙◌, ap, ℕ, List, map, arith, refl, vec_len, length-map}
use Rattle.solve_runs.proofs.Ending.{same_answer, search_of_all, uncalled}
use Rattle.solve_runs.proofs.Limits.{served_are, still_enough}
use Rattle.solve_runs.proofs.Telling.{have_same, map_take, Element}
use Rattle.solve_runs.proofs.search.run_search.Goals as goal

pub returns-then-have-asked-clause-ended : goal.returns-then-have-asked-clause-ended
returns-then-have-asked-clause-ended g c =
    let K = g.D.Disk in
    let e = c.unopened.ensures in
    let heard : Element c.args.advisers.items → ℕ = λ a. (goal.Adviser-dyn g (a.vtable, a.value)).told a.value in
    let before : List ℕ = map heard c.args.advisers.items in
    let all = have_same heard c.as_slice.result.now c.args.advisers.items c.workers_for-have.result c.workers_for-have.ensures c.as_slice.ensures.value in
    same_answer K.reads K.images K.images_since K.calls K.faults c.args.disk c.args.instance.now c.args.request.workers c.args.request.steps before _ before
    _ _ _ _ e.1 (ap (λ v. map heard v.items) e.2) e.0
    (uncalled K.reads K.images K.images_since K.calls K.faults c.args.disk, refl, refl, all, c.if-have-asked.true)

pub search_with-requires-clause-some : goal.search_with-requires-clause-some
search_with-requires-clause-some g c =
    let heard : Element c.args.advisers.items → ℕ = λ a. (goal.Adviser-dyn g (a.vtable, a.value)).told a.value in
    let before : List ℕ = map heard c.args.advisers.items in
    let all = have_same heard c.as_slice.result.now c.args.advisers.items c.workers_for-have.result c.workers_for-have.ensures c.as_slice.ensures.value in
    let served = served_are c.args.request.workers c.workers_for-have.result (vec_len c.args.advisers) (vec_len c.truncate.new.self) before all (omega (arith, length-map c.args.advisers.items heard, c.args.advisers.ok)) c.if-have-asked.false c.truncate.ensures.len in
    omega (arith, served.0, c.requires.some)

pub search_with-requires-clause-sixteen : goal.search_with-requires-clause-sixteen
search_with-requires-clause-sixteen g c κs within =
    let heard : Element c.args.advisers.items → ℕ = λ a. (goal.Adviser-dyn g (a.vtable, a.value)).told a.value in
    let before : List ℕ = map heard c.args.advisers.items in
    let all = have_same heard c.as_slice.result.now c.args.advisers.items c.workers_for-have.result c.workers_for-have.ensures c.as_slice.ensures.value in
    let served = served_are c.args.request.workers c.workers_for-have.result (vec_len c.args.advisers) (vec_len c.truncate.new.self) before all (omega (arith, length-map c.args.advisers.items heard, c.args.advisers.ok)) c.if-have-asked.false c.truncate.ensures.len in
    served.1

pub returns-clause-ended : goal.returns-clause-ended
returns-clause-ended g c =
    let K = g.D.Disk in
    let heard : Element c.args.advisers.items → ℕ = λ a. (goal.Adviser-dyn g (a.vtable, a.value)).told a.value in
    let before : List ℕ = map heard c.args.advisers.items in
    let all = have_same heard c.as_slice.result.now c.args.advisers.items c.workers_for-have.result c.workers_for-have.ensures c.as_slice.ensures.value in
    let served = served_are c.args.request.workers c.workers_for-have.result (vec_len c.args.advisers) (vec_len c.truncate.new.self) before all (omega (arith, length-map c.args.advisers.items heard, c.args.advisers.ok)) c.if-have-asked.false c.truncate.ensures.len in
    let first = ap (map heard) c.truncate.ensures.items ∙ map_take heard c.args.request.workers c.args.advisers.items in
    search_of_all K.reads K.images K.images_since K.calls K.faults c.args.disk c.args.instance.now c.args.request.steps (vec_len c.truncate.new.self) c.args.request.workers before _ _ _ _ served.0 first (still_enough c.args.request.workers c.workers_for-have.result before all c.if-have-asked.false) c.search_with.ensures.ended
