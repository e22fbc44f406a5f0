use Rattle.recovery.proofs.Common.{map, rules, Eight}
use Rattle.recovery.proofs.Folds.{none_rejected}
use Rattle.recovery.proofs.Migrated.{all_can}
use Rattle.recovery.proofs.migrating.judge.Goals as goal

pub returns-in_err-_state-clause-only : goal.returns-in_err-_state-clause-only
returns-in_err-_state-clause-only g c = none_rejected Eight c.args.instance.now (map (λ r. r.items) c.args.records.now) c.from_residual.result (search rules)

pub returns-clause-respelled : goal.returns-clause-respelled
returns-clause-respelled g c =
    all_can c.args.instance.now c.args.records.now c.in_ok-_state._state.history c.in_ok-_state._state.book c.heads-heads.ensures.valid c.in_ok-_state.ensures.history
