use Rattle.migrate_runs.proofs.Common.{◌≡◌, rules, canonical_text, IsInstance}
use Rattle.migrate_runs.proofs.Carried.{not_read, other_text}
use Rattle.migrate_runs.proofs.carrying.instance_of.Goals as goal

pub returns-in-Err-clause-refused : goal.returns-in-Err-clause-refused
returns-in-Err-clause-refused c = rw c.end_of_reading.ensures (not_read c.args.head.now c.in-Err.refusal c.in-Err.ensures)

pub returns-then-ne-clause-refused : goal.returns-then-ne-clause-refused
returns-then-ne-clause-refused c =
    let valid : IsInstance c.in-Ok.instance = search rules in
    let other : canonical_text c.in-Ok.instance ≡ c.args.head.now → ⊥ = search rules in
    other_text c.args.head.now c.in-Ok.instance valid other c.in-Ok.ensures
