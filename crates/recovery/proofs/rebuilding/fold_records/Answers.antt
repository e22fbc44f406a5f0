use Rattle.recovery.proofs.Common.{◌≡◌, length, arith, rules, slice_get_within}
use Rattle.recovery.proofs.Folds.{found_here, folding_at, folding_done, folding_found, folding_grown, folding_more, folding_starts, folding_stops, folding_tree, tree_here}
use Rattle.recovery.proofs.rebuilding.fold_records.Goals as goal

pub loop-outcome-init : goal.loop-outcome-init
loop-outcome-init c = folding_starts c.args._width c.args.instance.now c.args._records.now c.args.from c.args.outcomes.items _ c.args.state.now (search rules) c.requires.instance c.requires.before

pub overflow_add-from : goal.overflow_add-from
overflow_add-from c =
    let r = folding_at c.args._width c.args.instance.now c.args._records.now c.args.from c.args.state.now.history c.args.outcomes.items _ _ _ c.loop-outcome.at c.loop-outcome.state c.in-Some.outcome c.requires.reads c.loop-outcome.invariant c.in-Some.ensures.steps.0 in
    omega (arith, r.1, c.requires.numbers)

pub bounds-findings-at : goal.bounds-findings-at
bounds-findings-at c =
    let b = folding_found c.args._width c.args.instance.now c.args._records.now c.args.from c.args.state.now.history c.args.tree.now c.args.outcomes.items _ _ _ c.loop-outcome.at c.loop-outcome.state c.in-Some.outcome c.args.findings.now c.requires.found c.loop-outcome.invariant c.in-Some.ensures.steps.0 in
    slice_get_within c.args.findings.now c.loop-outcome.at b.0 b.1

pub add_record-requires-clause-tree : goal.add_record-requires-clause-tree
add_record-requires-clause-tree c =
    tree_here c.args._width c.args.tree.now c.loop-outcome.state.history c.in-Some.outcome
    (folding_tree c.args._width c.args.instance.now c.args._records.now c.args.from c.args.state.now.history c.args.tree.now c.args.outcomes.items _ _ _ c.loop-outcome.at c.loop-outcome.state c.in-Some.outcome c.requires.tree c.loop-outcome.invariant c.in-Some.ensures.steps.0)

pub add_record-requires-clause-found : goal.add_record-requires-clause-found
add_record-requires-clause-found c =
    found_here c.args._width c.args.instance.now c.args.tree.now c.in-Some.outcome c.args.findings.now c.loop-outcome.at c.index-findings-at.result c.deref.result.now
    (folding_found c.args._width c.args.instance.now c.args._records.now c.args.from c.args.state.now.history c.args.tree.now c.args.outcomes.items _ _ _ c.loop-outcome.at c.loop-outcome.state c.in-Some.outcome c.args.findings.now c.requires.found c.loop-outcome.invariant c.in-Some.ensures.steps.0)
    c.index-findings-at.is c.deref.ensures.value

pub returns-in-Err-clause-refused : goal.returns-in-Err-clause-refused
returns-in-Err-clause-refused c =
    rw (c.fault_at.ensures)
    (folding_stops c.args._width c.args.instance.now c.args._records.now c.args.from c.args.state.now.history c.args.outcomes.items _ _ _ c.loop-outcome.at c.loop-outcome.state c.in-Some.outcome c.in-Err.why c.requires.reads c.loop-outcome.invariant c.in-Some.ensures.steps.0 (c.in-Err.ensures.err c.args._width))

pub loop-outcome-preserved : goal.loop-outcome-preserved
loop-outcome-preserved c = folding_more c.args._width _ _ _ _ _ _ _ _ _ _ _ c.in-Some.outcome c.requires.reads c.loop-outcome.invariant c.in-Some.ensures.steps.0 c.in_default.ensures.ok

pub returns-clause-history : goal.returns-clause-history
returns-clause-history c =
    let none : length c.loop-outcome.outcome-iterator.rest.items ≡ 0 = omega (arith, c.loop-outcome.outcome-iterator.rest.ok, c.in-None.ensures.steps) in
    ((folding_done c.args._width c.args.instance.now c.args._records.now c.args.from c.args.state.now.history c.args.outcomes.items c.loop-outcome.yielded c.loop-outcome.outcome-iterator.rest.items c.loop-outcome.at c.loop-outcome.state c.loop-outcome.invariant none).1).made

pub returns-clause-grown : goal.returns-clause-grown
returns-clause-grown c =
    let none : length c.loop-outcome.outcome-iterator.rest.items ≡ 0 = omega (arith, c.loop-outcome.outcome-iterator.rest.ok, c.in-None.ensures.steps) in
    folding_grown c.args._width c.args.instance.now c.args._records.now c.args.from c.args.state.now.history c.args.outcomes.items c.loop-outcome.yielded c.loop-outcome.outcome-iterator.rest.items c.loop-outcome.at c.loop-outcome.state c.loop-outcome.invariant none
