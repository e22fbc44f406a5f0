use Rattle.subtree_search.proofs.Common.{◌≡◌, ◌⊎◌, ◌∙◌, ◌<◌, ◌≤◌, ◌^◌, false, arith, ap, sym, subst, IsTrue, IsOwn, map_ok, is_finished, Run, run_of, IsGreedyRun, IsSearched, greedy_step}
use Rattle.advisers.specs.Hearing.{Planned}
use Rattle.subtree_search.proofs.Solved.{asked_few, greedy_are, greedy_is, greedy_run, is_greedy, never_asked, never_ends, next_few, next_number, opened_greedy, opened_within, own_after, own_opening, run_ends, run_finished, searched_run, sound_run, step_smaller, stops, takes, takes_within, within_budget}
use Rattle.subtree_search.proofs.solving.solve_below.Goals as goal

pub loop-node-init : goal.loop-node-init
loop-node-init c = record {
  steps = opened_greedy c.args.instance.now c.args.base c.args.limit _ c.in_ok-search.ensures;
  within = opened_within c.args.base c.args.limit c.args.budget _ c.in_ok-search.ensures;
  buffers = c.new-buffers.ensures.instance;
  own = own_opening c.args.instance.now _ (ap (λ (p : Planned). p.kept) c.of_first-greedy.ensures);
}

pub ask-requires : goal.ask-requires
ask-requires c =
    takes_within c.args.budget c.loop-node.search c.in-Some.node (takes c.args.budget false c.loop-node.search c.next_within.result c.in-Some.node c.in-Some.is c.next_within.ensures)

pub advise-requires : goal.advise-requires
advise-requires c =
    let i = c.args.instance.now in
    let s = c.loop-node.search in
    let t = takes c.args.budget false s c.next_within.result c.in-Some.node c.in-Some.is c.next_within.ensures in
    let steps = greedy_are i c.args.base c.args.limit s c.loop-node.invariant.steps in
    asked_few i c.args.base c.args.limit c.args.budget s c.in-Some.node c.in_ok-ask.ask.cuts c.slots-valid.ensures.valid steps c.loop-node.invariant.within c.requires.budget c.requires.few t c.in_ok-ask.ensures

pub step-requires-clause-next : goal.step-requires-clause-next
step-requires-clause-next c =
    let s = c.loop-node.search in
    let k = c.in-Some.node in
    let t = takes c.args.budget false s c.next_within.result k c.in-Some.is c.next_within.ensures in
    (t.node, t.next)

pub step-requires-clause-few : goal.step-requires-clause-few
step-requires-clause-few c =
    let i = c.args.instance.now in
    let s = c.loop-node.search in
    let k = c.in-Some.node in
    let valid = c.slots-valid.ensures.valid in
    let steps = greedy_are i c.args.base c.args.limit s c.loop-node.invariant.steps in
    let within = c.loop-node.invariant.within in
    let small : c.args.budget ≤ 10 ^ 9 = c.requires.budget in
    λ n at. next_few i c.args.base c.args.limit c.args.budget s k n valid steps within small c.requires.few at

pub step-requires-clause-number : goal.step-requires-clause-number
step-requires-clause-number c =
    let i = c.args.instance.now in
    let s = c.loop-node.search in
    let k = c.in-Some.node in
    let t = takes c.args.budget false s c.next_within.result k c.in-Some.is c.next_within.ensures in
    let valid = c.slots-valid.ensures.valid in
    let steps = greedy_are i c.args.base c.args.limit s c.loop-node.invariant.steps in
    let within = c.loop-node.invariant.within in
    let small : c.args.budget ≤ 10 ^ 9 = c.requires.budget in
    next_number i c.args.base c.args.limit c.args.budget s k t.node valid steps within small t.next

pub step-requires-clause-room : goal.step-requires-clause-room
step-requires-clause-room c =
    let s = c.loop-node.search in
    let k = c.in-Some.node in
    let t = takes c.args.budget false s c.next_within.result k c.in-Some.is c.next_within.ensures in
    let less : s.taken < c.args.budget = t.less in
    let small : c.args.budget ≤ 10 ^ 9 = c.requires.budget in
    omega (arith, less, small)

pub step-requires-clause-buffers : goal.step-requires-clause-buffers
step-requires-clause-buffers c =
    c.loop-node.invariant.buffers

pub loop-node-preserved : goal.loop-node-preserved
loop-node-preserved c =
    let i = c.args.instance.now in
    let s = c.loop-node.search in
    let k = c.in-Some.node in
    let t = takes c.args.budget false s c.next_within.result k c.in-Some.is c.next_within.ensures in
    let greedy = c.in_ok-advice.ensures.own c.loop-node.invariant.own in
    let st = is_greedy i k t.node c.in_ok-ask.ask.cuts c.in_ok-advice.advice s _ t.next.there c.in_ok-ask.ensures greedy c.in_ok-search-2.ensures.step in
    let steps = greedy_are i c.args.base c.args.limit s c.loop-node.invariant.steps in
    record {
      steps = greedy_step s _ c.loop-node.invariant.steps st;
      within = within_budget i c.args.base c.args.limit c.args.budget s _ c.slots-valid.ensures.valid c.requires.limit steps (greedy_is i s _ st) t.less;
      buffers = c.in_ok-search-2.ensures.buffers ∙ c.loop-node.invariant.buffers;
      own = subst (λ (p : Planned). IsOwn p.kept i) (sym c.in_ok-advice.ensures.kept) (own_after i c.loop-node.greedy.keeps c.loop-node.greedy.kept c.loop-node.invariant.own);
    }

pub loop-node-smaller : goal.loop-node-smaller
loop-node-smaller c =
    let i = c.args.instance.now in
    let s = c.loop-node.search in
    let k = c.in-Some.node in
    let t = takes c.args.budget false s c.next_within.result k c.in-Some.is c.next_within.ensures in
    let greedy = c.in_ok-advice.ensures.own c.loop-node.invariant.own in
    let st = is_greedy i k t.node c.in_ok-ask.ask.cuts c.in_ok-advice.advice s _ t.next.there c.in_ok-ask.ensures greedy c.in_ok-search-2.ensures.step in
    let steps = greedy_are i c.args.base c.args.limit s c.loop-node.invariant.steps in
    step_smaller i c.args.base c.args.limit c.args.budget s _ c.slots-valid.ensures.valid c.requires.limit steps (greedy_is i s _ st) t.less

pub into_run-requires : goal.into_run-requires
into_run-requires c =
    sound_run c.args.instance.now c.args.base c.args.limit c.args.budget c.loop-node.search c.slots-valid.ensures.valid (greedy_are c.args.instance.now c.args.base c.args.limit c.loop-node.search c.loop-node.invariant.steps) c.loop-node.invariant.within c.requires.budget

pub returns-clause-searched : goal.returns-clause-searched
returns-clause-searched c =
    let i = c.args.instance.now in
    let s = c.loop-node.search in
    let steps = greedy_are i c.args.base c.args.limit s c.loop-node.invariant.steps in
    map_ok c.into_run.result (λ (r : Run). r ≡ run_of i s) (IsSearched i c.args.base c.args.limit c.args.budget) c.into_run.ensures (λ r is. searched_run i c.args.base c.args.limit c.args.budget s r steps c.loop-node.invariant.within is)

pub returns-clause-greedy : goal.returns-clause-greedy
returns-clause-greedy c =
    let i = c.args.instance.now in
    let s = c.loop-node.search in
    map_ok c.into_run.result (λ (r : Run). r ≡ run_of i s) (IsGreedyRun i c.args.base c.args.limit) c.into_run.ensures (λ r is. greedy_run i c.args.base c.args.limit s r c.loop-node.invariant.steps is)

pub returns-clause-ends : goal.returns-clause-ends
returns-clause-ends c =
    let i = c.args.instance.now in
    let s = c.loop-node.search in
    let why = stops c.args.budget false s c.next_within.result c.in_default.is c.next_within.ensures in
    map_ok c.into_run.result (λ (r : Run). r ≡ run_of i s) (λ (r : Run). IsTrue (is_finished r) ⊎ (r.taken ≡ c.args.budget)) c.into_run.ensures (λ r is. never_ends (IsTrue (is_finished r)) (r.taken ≡ c.args.budget) (run_ends i c.args.budget false s r why is))

pub returns-clause-enough : goal.returns-clause-enough
returns-clause-enough c =
    let i = c.args.instance.now in
    let s = c.loop-node.search in
    let steps = greedy_are i c.args.base c.args.limit s c.loop-node.invariant.steps in
    let why = stops c.args.budget false s c.next_within.result c.in_default.is c.next_within.ensures in
    λ enough. map_ok c.into_run.result (λ (r : Run). r ≡ run_of i s) (λ (r : Run). IsTrue (is_finished r)) c.into_run.ensures (λ r is. never_asked (IsTrue (is_finished r)) (run_finished i c.args.base c.args.limit c.args.budget false s r c.slots-valid.ensures.valid c.requires.limit steps enough why is))
