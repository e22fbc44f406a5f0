use Rattle.greedy.proofs.Common.{rules}
use Rattle.greedy.proofs.Rounding.{last_round, next_round, opening_after, rounds_done, opening_leads}
use Rattle.greedy.proofs.plan.greedy_draft.Goals as goal

pub rounds-init : goal.rounds-init
rounds-init g c = record {
  draft = c.in_ok-draft.ensures.draft;
  bounds = c.in_ok-kept.ensures.bounds;
  kept = c.in_ok-kept.ensures.kept;
  rounds = opening_after c.args.instance.now c.in_ok-draft.draft.cover.duties c.in_ok-draft.ensures.duties;
  leads = opening_leads c.args.instance.now _ c.in_ok-draft.draft.cover.duties c.in_ok-draft.ensures.duties (search rules);
}

pub rounds-preserved : goal.rounds-preserved
rounds-preserved g c = record {
  draft = c.in_ok-round.ensures.draft;
  bounds = c.in_ok-round.ensures.bounds;
  kept = c.in_ok-round.ensures.kept;
  rounds = c.in_ok-round.ensures.rounds c.rounds.invariant.rounds;
  leads = next_round _ c.args.instance.now _ c.rounds._round c.rounds.draft.cover.duties c.round.new.draft.cover.duties c.in_ok-round.field-0
      c.rounds-test.true c.if-not-branch.false c.in_ok-round.ensures.leads c.rounds.invariant.leads;
}

pub returns-then-not-branch-clause-leads : goal.returns-then-not-branch-clause-leads
returns-then-not-branch-clause-leads g c =
    last_round _ c.args.instance.now _ c.rounds._round c.rounds.draft.cover.duties c.round.new.draft.cover.duties c.in_ok-round.field-0
    c.rounds-test.true c.if-not-branch.true c.in_ok-round.ensures.leads c.rounds.invariant.leads

pub returns-clause-leads : goal.returns-clause-leads
returns-clause-leads g c = λ free. rounds_done c.args.instance.now _ c.rounds._round c.rounds.draft.cover.duties c.rounds-test.false c.rounds.invariant.leads

pub returns-then-not-branch-clause-rounds : goal.returns-then-not-branch-clause-rounds
returns-then-not-branch-clause-rounds g c = c.in_ok-round.ensures.rounds c.rounds.invariant.rounds
