use Rattle.subtree_search.proofs.Common.{◌≡◌, ◌⊎◌, ◌∙◌, ◌<◌, ◌≤◌, ◌^◌, true, arith, IsTrue, map_ok, is_finished, Run, run_of, IsSearched, one_more}
use Rattle.subtree_search.proofs.Solved.{asked_few, is_step, next_few, next_number, opened, opened_within, run_ends, run_finished, searched_run, sound_run, step_smaller, stops, takes, takes_within, within_budget, within_longer}
use Rattle.subtree_search.proofs.solving.solve_below_by.Goals as goal

pub loop-node-init : goal.loop-node-init
loop-node-init g c = record {
  steps = opened c.args.instance.now c.args.base c.args.limit _ c.in_ok-search.ensures;
  within = opened_within c.args.base c.args.limit c.args.budget _ c.in_ok-search.ensures;
  buffers = c.new-buffers.ensures.instance;
}

pub ask-requires : goal.ask-requires
ask-requires g c =
    takes_within c.args.budget c.loop-node.search c.in-Some.node (takes c.args.budget (g.S.Stop.can_ask c.args.stop.now) c.loop-node.search c.next_within.result c.in-Some.node c.in-Some.is c.next_within.ensures)

pub advise-requires : goal.advise-requires
advise-requires g c =
    let t = takes c.args.budget (g.S.Stop.can_ask c.args.stop.now) c.loop-node.search c.next_within.result c.in-Some.node c.in-Some.is c.next_within.ensures in
    record { few = asked_few c.args.instance.now c.args.base c.args.limit c.args.budget c.loop-node.search c.in-Some.node c.in_ok-ask.ask.cuts c.slots-valid.ensures.valid c.loop-node.invariant.steps c.loop-node.invariant.within c.requires.budget c.requires.few t c.in_ok-ask.ensures }

pub step-requires-clause-next : goal.step-requires-clause-next
step-requires-clause-next g c =
    let t = takes c.args.budget (g.S.Stop.can_ask c.args.stop.now) c.loop-node.search c.next_within.result c.in-Some.node c.in-Some.is c.next_within.ensures in
    (t.node, t.next)

pub step-requires-clause-few : goal.step-requires-clause-few
step-requires-clause-few g c =
    let valid = c.slots-valid.ensures.valid in
    let steps = c.loop-node.invariant.steps in
    let within = c.loop-node.invariant.within in
    let small : c.args.budget ≤ 10 ^ 9 = c.requires.budget in
    λ n at. next_few c.args.instance.now c.args.base c.args.limit c.args.budget c.loop-node.search c.in-Some.node n valid steps within small c.requires.few at

pub step-requires-clause-number : goal.step-requires-clause-number
step-requires-clause-number g c =
    let t = takes c.args.budget (g.S.Stop.can_ask c.args.stop.now) c.loop-node.search c.next_within.result c.in-Some.node c.in-Some.is c.next_within.ensures in
    let valid = c.slots-valid.ensures.valid in
    let steps = c.loop-node.invariant.steps in
    let within = c.loop-node.invariant.within in
    let small : c.args.budget ≤ 10 ^ 9 = c.requires.budget in
    next_number c.args.instance.now c.args.base c.args.limit c.args.budget c.loop-node.search c.in-Some.node t.node valid steps within small t.next

pub step-requires-clause-room : goal.step-requires-clause-room
step-requires-clause-room g c =
    let t = takes c.args.budget (g.S.Stop.can_ask c.args.stop.now) c.loop-node.search c.next_within.result c.in-Some.node c.in-Some.is c.next_within.ensures in
    let less : c.loop-node.search.taken < c.args.budget = t.less in
    let small : c.args.budget ≤ 10 ^ 9 = c.requires.budget in
    omega (arith, less, small)

pub step-requires-clause-buffers : goal.step-requires-clause-buffers
step-requires-clause-buffers g c =
    c.loop-node.invariant.buffers

pub news-requires-clause-there : goal.news-requires-clause-there
news-requires-clause-there g c =
    let t = takes c.args.budget (g.S.Stop.can_ask c.args.stop.now) c.loop-node.search c.next_within.result c.in-Some.node c.in-Some.is c.next_within.ensures in
    let inside = takes_within c.args.budget c.loop-node.search c.in-Some.node t in
    within_longer c.in-Some.node c.loop-node.search c.in_ok-search-2.search inside c.in_ok-search-2.ensures.longer

pub news-requires-clause-number : goal.news-requires-clause-number
news-requires-clause-number g c =
    let t = takes c.args.budget (g.S.Stop.can_ask c.args.stop.now) c.loop-node.search c.next_within.result c.in-Some.node c.in-Some.is c.next_within.ensures in
    next_number c.args.instance.now c.args.base c.args.limit c.args.budget c.loop-node.search c.in-Some.node t.node c.slots-valid.ensures.valid c.loop-node.invariant.steps c.loop-node.invariant.within c.requires.budget t.next

pub loop-node-preserved : goal.loop-node-preserved
loop-node-preserved g c =
    let i = c.args.instance.now in
    let t = takes c.args.budget (g.S.Stop.can_ask c.args.stop.now) c.loop-node.search c.next_within.result c.in-Some.node c.in-Some.is c.next_within.ensures in
    let st = is_step i c.in-Some.node t.node c.in_ok-advice.advice c.loop-node.search _ t.next.there c.in_ok-search-2.ensures.step in
    record {
      steps = one_more c.loop-node.search _ c.loop-node.invariant.steps st;
      within = within_budget i c.args.base c.args.limit c.args.budget c.loop-node.search _ c.slots-valid.ensures.valid c.requires.limit c.loop-node.invariant.steps st t.less;
      buffers = c.in_ok-search-2.ensures.buffers ∙ c.loop-node.invariant.buffers;
    }

pub loop-node-smaller : goal.loop-node-smaller
loop-node-smaller g c =
    let i = c.args.instance.now in
    let t = takes c.args.budget (g.S.Stop.can_ask c.args.stop.now) c.loop-node.search c.next_within.result c.in-Some.node c.in-Some.is c.next_within.ensures in
    let st = is_step i c.in-Some.node t.node c.in_ok-advice.advice c.loop-node.search _ t.next.there c.in_ok-search-2.ensures.step in
    step_smaller i c.args.base c.args.limit c.args.budget c.loop-node.search _ c.slots-valid.ensures.valid c.requires.limit c.loop-node.invariant.steps st t.less

pub into_run-requires : goal.into_run-requires
into_run-requires g c =
    sound_run c.args.instance.now c.args.base c.args.limit c.args.budget c.loop-node.search c.slots-valid.ensures.valid c.loop-node.invariant.steps c.loop-node.invariant.within c.requires.budget

pub returns-clause-searched : goal.returns-clause-searched
returns-clause-searched g c =
    let i = c.args.instance.now in
    let s = c.loop-node.search in
    let steps = c.loop-node.invariant.steps in
    map_ok c.into_run.result (λ (r : Run). r ≡ run_of i s) (IsSearched i c.args.base c.args.limit c.args.budget) c.into_run.ensures (λ r is. searched_run i c.args.base c.args.limit c.args.budget s r steps c.loop-node.invariant.within is)

pub returns-clause-ends : goal.returns-clause-ends
returns-clause-ends g c =
    let i = c.args.instance.now in
    let asks = g.S.Stop.can_ask c.args.stop.now in
    let s = c.loop-node.search in
    let why = stops c.args.budget asks s c.next_within.result c.in_default.is c.next_within.ensures in
    map_ok c.into_run.result (λ (r : Run). r ≡ run_of i s) (λ (r : Run). IsTrue (is_finished r) ⊎ ((r.taken ≡ c.args.budget) ⊎ (asks ≡ true))) c.into_run.ensures (λ r is. run_ends i c.args.budget asks s r why is)

pub returns-clause-enough : goal.returns-clause-enough
returns-clause-enough g c =
    let i = c.args.instance.now in
    let asks = g.S.Stop.can_ask c.args.stop.now in
    let s = c.loop-node.search in
    let steps = c.loop-node.invariant.steps in
    let why = stops c.args.budget asks s c.next_within.result c.in_default.is c.next_within.ensures in
    λ enough. map_ok c.into_run.result (λ (r : Run). r ≡ run_of i s) (λ (r : Run). IsTrue (is_finished r) ⊎ (asks ≡ true)) c.into_run.ensures (λ r is. run_finished i c.args.base c.args.limit c.args.budget asks s r c.slots-valid.ensures.valid c.requires.limit steps enough why is)
