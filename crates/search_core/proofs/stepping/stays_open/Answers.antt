use Rattle.search_core.proofs.Common.{◌<◌, ◌≤◌, ℕ, false, sym, ◌∙◌, ap, subst, arith, posts_of, best_with, floor_with, IsAfter}
use Rattle.search_core.proofs.Closing.{closed_as_settled, closed_by_split}
use Rattle.search_core.proofs.Stepped.{after_by_price, leaves_none, leaves_with}
use Rattle.search_core.proofs.stepping.stays_open.Goals as goal

pub returns-then-floor-best-clause-open : goal.returns-then-floor-best-clause-open
returns-then-floor-best-clause-open c =
    let s = c.args.step.now in
    let p = s.proved in
    let best = c.best_with-best.result in
    let floor = c.floor_with-floor.result in
    let number = c.floor_with-floor.ensures ∙ ap (λ (n : ℕ). floor_with n best c.args.floor) c.bound-bound.ensures.bound ∙ ap (λ (n : ℕ). floor_with p.bound n c.args.floor) c.best_with-best.ensures.best in
    let less : floor < best = omega arith in (
      c.in-ByPrice.is,
      λ i b w fits a.
          let base = after_by_price i b w s c.args.best c.args.floor c.in-ByPrice.is fits c.best_with-best.ensures.costed c.bound-bound.ensures.proved a in
          leaves_with i b w s best floor
          (subst (λ (n : ℕ). IsAfter i b s.node p.cuts (posts_of i b w s) n floor false) (sym c.best_with-best.ensures.best)
          (subst (λ (n : ℕ). IsAfter i b s.node p.cuts (posts_of i b w s) (best_with s.plan c.args.best) n false) (sym number) base)) less,
    )

pub returns-else-floor-best-clause-closed : goal.returns-else-floor-best-clause-closed
returns-else-floor-best-clause-closed c = λ none below i b w fits a.
    let s = c.args.step.now in
    let p = s.proved in
    let best = c.best_with-best.result in
    let floor = c.floor_with-floor.result in
    let number = c.floor_with-floor.ensures ∙ ap (λ (n : ℕ). floor_with n best c.args.floor) c.bound-bound.ensures.bound ∙ ap (λ (n : ℕ). floor_with p.bound n c.args.floor) c.best_with-best.ensures.best in
    let more : best ≤ floor = omega arith in
    let base = after_by_price i b w s c.args.best c.args.floor c.in-ByPrice.is fits c.best_with-best.ensures.costed c.bound-bound.ensures.proved a in
    leaves_none i b w s best floor
    (subst (λ (n : ℕ). IsAfter i b s.node p.cuts (posts_of i b w s) n floor false) (sym c.best_with-best.ensures.best)
    (subst (λ (n : ℕ). IsAfter i b s.node p.cuts (posts_of i b w s) (best_with s.plan c.args.best) n false) (sym number) base)) more

pub returns-in-Split-clause-closed : goal.returns-in-Split-clause-closed
returns-in-Split-clause-closed c = λ none below i b w fits a.
    closed_by_split i b w c.args.step.now c.args.best c.args.floor fits c.best_with-best.ensures.costed c.bound-bound.ensures.proved a _ _ c.in-Split.is

pub returns-in-Settled-clause-closed : goal.returns-in-Settled-clause-closed
returns-in-Settled-clause-closed c = λ none below i b w fits a.
    closed_as_settled i b w c.args.step.now c.args.best c.args.floor fits c.best_with-best.ensures.costed c.bound-bound.ensures.proved a _ c.in-Settled.is c.floor-floor.ensures.settled below
