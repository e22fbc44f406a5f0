use Rattle.recovery.proofs.Common.{ℕ, List, subst, SpellSame}
use Rattle.recovery.proofs.Migrated.{respelled_next}
use Rattle.recovery.proofs.migrating.all_respelled.Goals as goal

pub loop-record-preserved : goal.loop-record-preserved
loop-record-preserved c =
    let new = c.in_ok-respelled.field-0 in
    let same : SpellSame c.record-item.result.items new.items = subst (λ (l : List ℕ). SpellSame l new.items) c.deref.ensures.value c.in_ok-respelled.ensures in
    rw c.in_ok-push.ensures.items (respelled_next c.args.records.now c.loop-record.new.items c.loop-record.record-index c.record-item.result new c.loop-record-test.true c.record-item.is c.loop-record.invariant same)
