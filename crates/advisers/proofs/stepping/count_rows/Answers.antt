use Rattle.advisers.proofs.Common.{◌≡◌, ◌≤◌, ℕ, arith, cond, length, ap, duty_of, works, working}
use Rattle.advisers.proofs.PriceSteps.{count_more, count_all, works_few}
use Rattle.advisers.proofs.stepping.count_rows.Goals as goal

pub add_duties-requires-clause-room : goal.add_duties-requires-clause-room
add_duties-requires-clause-room c =
    λ t small.
    let few : length c.args.rows.now ≤ 7168 = c.requires.rows.few in
    omega (arith, c.loop-row.invariant.limit t small)

pub loop-row-preserved : goal.loop-row-preserved
loop-row-preserved c =
    let i = c.args.instance.now in
    let r = c.row-item.result in
    let count = c.from.result in
    let added : (t : ℕ) → cond (works i (duty_of r) t) count 0 ≡ working i t r = λ t. ap (λ (n : ℕ). cond (works i (duty_of r) t) n 0) c.from.ensures in
    record {
      covered = λ t small. omega (arith, count_more i t c.args.rows.now c.loop-row.row-index r c.loop-row-test.true c.row-item.is, c.loop-row.invariant.covered t small, c.add_duties.ensures t small, added t);
      limit = λ t small. omega (arith, works_few i t r, c.from.ensures, c.loop-row.invariant.limit t small, c.add_duties.ensures t small, added t);
    }

pub returns : goal.returns
returns c = λ t small. count_all c.args.instance.now t c.args.rows.now c.loop-row.row-index _ c.loop-row-test.false (c.loop-row.invariant.covered t small)
