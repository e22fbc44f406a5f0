use Rattle.migrate_runs.proofs.Common.{◌≡◌, ℕ, ◌+◌, List, length, take, refl, sym, subst, arith, Vec, Global, take_all, Spells}
use Rattle.migrate_runs.proofs.Counted.{IsCounted, counted, counted_more}
use Rattle.migrate_runs.proofs.line.count_posts.Goals as goal

pub loop-record-preserved : goal.loop-record-preserved
loop-record-preserved c =
    let posts = c.in-Ok.posts.items in
    let sum : c.in-Some.sum ≡ c.loop-record.count + length posts = omega (arith, c.in-Some.ensures) in
    let spells : Spells c.record-item.result.items posts = subst (λ (l : List ℕ). Spells l posts) c.deref.ensures.value c.in-Ok.ensures.found in
    subst (IsCounted (take (c.loop-record.record-index + 1) c.args.records.now)) (sym sum)
    (counted_more c.args.records.now c.loop-record.record-index c.record-item.result c.loop-record.count (length posts) posts c.loop-record-test.true c.record-item.is c.loop-record.invariant spells refl)

pub returns : goal.returns
returns c =
    counted c.args.records.now c.loop-record.count (subst (λ (l : List (Vec ℕ Global)). IsCounted l c.loop-record.count) (take_all c.loop-record.record-index c.args.records.now c.loop-record-test.false) c.loop-record.invariant)
