use Rattle.search_core.proofs.Common.{◌≡◌, false, List, [], Option, sym, ◌∙◌, ap, subst, IfSome, IsTrue, Problem, Costing, Cut, settled_floor, is_settled, Post, Priced, followed_by, plan_posts, where_open, FitsClose, StepDraft, IsDraft}
use Rattle.search_core.proofs.Stepped.{draft_start, plan_instance, posts_as_settled, posts_by_price, posts_by_split}
use Rattle.search_core.proofs.stepping.draft_of.Goals as goal

pub returns-in_ok-add_prices-in-ByPrice-clause-drafts : goal.returns-in_ok-add_prices-in-ByPrice-clause-drafts
returns-in_ok-add_prices-in-ByPrice-clause-drafts c = λ i b valid fits after.
    let s = c.args.step in
    let w = c.args.worker in
    let start : StepDraft = record { posts = c.new.result; values = c.new-2.result; best = c.args.best; floor = c.args.floor } in
    let one = c.in_ok-add_plan.ensures.drafts i b s.node s.proved.cuts [] valid fits.plan (draft_start i b s.node s.proved.cuts start c.new.ensures.items c.new-2.ensures.items after) in
    let two = c.in_ok-add_prices-in-ByPrice.ensures.drafts i b (plan_posts w s.plan b) valid fits.proved one in
    (false, subst (λ (l : List Post). IsDraft i b s.node s.proved.cuts l c.add_prices.new.self false) (posts_by_price i b w s c.in-ByPrice.is) two)

pub returns-in_ok-add_split-in-Split-clause-drafts : goal.returns-in_ok-add_split-in-Split-clause-drafts
returns-in_ok-add_split-in-Split-clause-drafts c = λ i b valid fits after.
    let s = c.args.step in
    let w = c.args.worker in
    let class = c.in-Split.class in
    let m = c.in-Split.m in
    let start : StepDraft = record { posts = c.new.result; values = c.new-2.result; best = c.args.best; floor = c.args.floor } in
    let close = subst (FitsClose i s.proved.cuts) c.in-Split.is fits.close in
    let one = c.in_ok-add_plan.ensures.drafts i b s.node s.proved.cuts [] valid fits.plan (draft_start i b s.node s.proved.cuts start c.new.ensures.items c.new-2.ensures.items after) in
    let two = c.in_ok-add_prices-in-Split.ensures.drafts i b (plan_posts w s.plan b) valid fits.proved one in
    let priced = followed_by i b (plan_posts w s.plan b) (where_open s.node (Priced w s.node s.proved.prices)) in
    let three = c.in_ok-add_split-in-Split.ensures.drafts i b s.proved.cuts priced valid close.0 close.1 close.2 two in
    (three.0, subst (λ (l : List Post). IsDraft i b s.node s.proved.cuts l c.add_split.new.self three.0) (posts_by_split i b w s class m c.in-Split.is) three.1)

pub returns-in_ok-add_settled-in-Settled-clause-drafts : goal.returns-in_ok-add_settled-in-Settled-clause-drafts
returns-in_ok-add_settled-in-Settled-clause-drafts c = λ i b valid fits after.
    let s = c.args.step in
    let w = c.args.worker in
    let node = c.in-Settled.settled in
    let start : StepDraft = record { posts = c.new.result; values = c.new-2.result; best = c.args.best; floor = c.args.floor } in
    let close = subst (FitsClose i s.proved.cuts) c.in-Settled.is fits.close in
    let sealed = c.floor-floor.ensures.settled in
    let plan = c.into_plan.ensures.plan in
    let here : IfSome node.plan (λ (p : Costing). p.instance ≡ i) = plan_instance i node.instance node.cuts node.plan _ sealed.plan close.0 in
    let one = c.in_ok-add_plan.ensures.drafts i b s.node s.proved.cuts [] valid fits.plan (draft_start i b s.node s.proved.cuts start c.new.ensures.items c.new-2.ensures.items after) in
    let first = plan_posts w s.plan b in
    let two = c.in_ok-add_plan-in-Settled.ensures.drafts i b s.node s.proved.cuts first valid (subst (λ (o : Option Costing). IfSome o (λ (p : Costing). p.instance ≡ i)) (sym plan) here) one in
    let both = followed_by i b first (plan_posts w node.plan) in
    let two' = subst (λ (o : Option Costing). IsDraft i b s.node s.proved.cuts (followed_by i b first (plan_posts w o)) c.add_plan-in-Settled.new.self false) plan two in
    let three = c.in_ok-add_prices-in-Settled.ensures.drafts i b both valid fits.proved two' in
    let priced = followed_by i b both (where_open s.node (Priced w s.node s.proved.prices)) in
    let fixed : IsTrue (is_settled i s.proved.cuts) = subst (λ (j : Problem). IsTrue (is_settled j s.proved.cuts)) close.0 (subst (λ (l : List Cut). IsTrue (is_settled node.instance l)) close.1 sealed.settled) in
    let floor : c.floor-floor.result ≡ settled_floor i s.proved.cuts = c.floor-floor.ensures.floor ∙ ap (settled_floor node.instance) close.1 ∙ ap (λ (j : Problem). settled_floor j s.proved.cuts) close.0 in
    let four = c.in_ok-add_settled-in-Settled.ensures.drafts i b s.proved.cuts priced fixed floor three in
    (four.0, subst (λ (l : List Post). IsDraft i b s.node s.proved.cuts l c.add_settled.new.self four.0) (posts_as_settled i b w s node c.in-Settled.is) four.1)
