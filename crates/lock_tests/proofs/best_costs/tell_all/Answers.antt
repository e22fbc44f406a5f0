use Rattle.std.proofs.Common.{◌≡◌, ℕ, ◌+◌, ◌-◌, arith, ap, ◌∙◌}
use Rattle.best_cell.specs.Told.{last_of}
use Rattle.lock_tests.proofs.Lists.{last_push}
use Rattle.lock_tests.proofs.best_costs.tell_all.Goals as goal

pub tell-requires-clause-follows : goal.tell-requires-clause-follows
tell-requires-clause-follows g c =
    let i = c.loop-posts.invariant in
    (omega (arith, ap (λ p. p.0) i.last, i.some), omega (arith, ap (λ p. p.1) i.last, i.some))

pub loop-posts-preserved : goal.loop-posts-preserved
loop-posts-preserved g c =
    let p : ℕ = c.loop-posts.posts in
    let one : p ≡ p + 1 - 1 = omega arith in
    let two : 2000 - p ≡ 2001 - (p + 1) = omega arith in
    record {
      last = ap last_of c.tell.ensures ∙ last_push c.loop-posts.teller (p, 2000 - p) ∙ (λ j. (one j, two j));
      some = omega arith;
    }
