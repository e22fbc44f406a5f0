use Rattle.recovery.proofs.Common.{map, rules, Eight}
use Rattle.recovery.proofs.Folds.{none_rejected}
use Rattle.recovery.proofs.Migrated.{same_book}
use Rattle.recovery.proofs.migrating.migrate_records.Goals as goal

pub returns-in_err-judge-clause-only : goal.returns-in_err-judge-clause-only
returns-in_err-judge-clause-only g c = none_rejected Eight c.args.instance.now (map (λ r. r.items) c.args.records.now) c.from_residual.result (search rules)

pub returns-clause-book : goal.returns-clause-book
returns-clause-book g c =
    same_book c.args.instance.now (map (λ r. r.items) c.args.records.now) (map (λ r. r.items) c.in_ok-all_respelled.field-0.items) c.in_ok-judge.ensures.ok c.in_ok-all_respelled.ensures
