use Rattle.migrate_runs.proofs.Common.{◌≡◌, ◌∙◌, ℕ, List, map, sym, subst, rules, Vec, Global, SpellPosts}
use Rattle.recovery.specs.declared.fault.RebuildFault.TheVariants.{NoMemory}
use Rattle.migrate_runs.proofs.Carried.{carried_over, only_headed_in, only_made, only_opened}
use Rattle.migrate_runs.proofs.carrying.carry.Goals as goal

pub returns-in-Err-clause-only : goal.returns-in-Err-clause-only
returns-in-Err-clause-only g c = λ i posts file told book.
    rw c.end_of.ensures (only_opened (g.D.Disk.reads c.args.old.now) (g.D.Disk.faults c.args.old.now) (g.D.Disk.faults c.open_v1.new.disk) c.in-Err.fault c.in-Err.ensures.cause i posts file told book)

pub returns-in_err-instance-clause-only : goal.returns-in_err-instance-clause-only
returns-in_err-instance-clause-only g c =
    only_headed_in (g.D.Disk.reads c.args.old.now) c.deref.result.now (map (λ r. r.items) c.in-Ok.found.1.items) c.from_residual.result (rw (← c.deref.ensures.value) at c.in-Ok.ensures.stood) (search rules)

pub returns-in-Err-Rejected-clause-only : goal.returns-in-Err-Rejected-clause-only
returns-in-Err-Rejected-clause-only g c =
    only_made (g.D.Disk.reads c.args.old.now) c.in_ok-instance.instance c.deref.result.now (map (λ r. r.items) c.deref-2.result.now) _ c.in_ok-instance.ensures.valid c.in_ok-instance.ensures.text
    (rw (← c.deref.ensures.value, ← c.deref-2.ensures.value) at c.in-Ok.ensures.stood)
    (λ posts book make. let none : c.in-Err-Rejected.field-0 ≡ NoMemory = c.in-Err-Rejected.ensures.only posts book make in cc)

pub returns-clause-carried : goal.returns-clause-carried
returns-clause-carried g c =
    carried_over (g.D.Disk.reads c.args.old.now) c.in_ok-instance.instance c.in-Ok.found.0.items (map (λ r. r.items) c.in-Ok.found.1.items) (map (λ r. r.items) c.in-Ok-migrate_records.records.items) c.in_ok-posts.posts
    c.in_ok-instance.ensures.valid (sym c.deref.ensures.value ∙ c.in_ok-instance.ensures.text) c.in-Ok.ensures.stood c.in-Ok.ensures.fits
    (rw c.deref-2.ensures.value at c.in-Ok-migrate_records.ensures.same) (rw c.deref-2.ensures.value at c.in-Ok-migrate_records.ensures.book)
    (λ posts spells. c.in_ok-posts.ensures posts (subst (λ (l : List (Vec ℕ Global)). SpellPosts (map (λ r. r.items) l) posts) (sym c.deref-3.ensures.value) spells))
