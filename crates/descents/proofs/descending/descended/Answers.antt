use Rattle.descents.proofs.Common.{◌+◌, ◌≤◌, ◌⊎◌, cost, rota_of, IsLocalOptimum}
use Rattle.descents.proofs.Tries.{of_rows}
use Rattle.descents.proofs.descending.descended.Goals as goal

pub returns-clause-cheaper : goal.returns-clause-cheaper
returns-clause-cheaper c =
    let i = c.args.instance.now in
    of_rows (λ new old. cost i (rota_of new) ≤ cost i (rota_of old)) i c.args.rows c.into_rows.result c.in_ok-draft.draft c.descend.new.draft c.in_ok-draft.ensures c.into_rows.ensures.rows c.in_ok-descend.ensures.cheaper

pub returns-clause-optimum : goal.returns-clause-optimum
returns-clause-optimum c =
    let i = c.args.instance.now in
    of_rows (λ new old. IsLocalOptimum i (rota_of new) ⊎ (cost i (rota_of new) + c.args.rounds ≤ cost i (rota_of old))) i c.args.rows c.into_rows.result c.in_ok-draft.draft c.descend.new.draft c.in_ok-draft.ensures c.into_rows.ensures.rows c.in_ok-descend.ensures.optimum
