use Rattle.search_core.proofs.Common.{◌≡◌, ◌++◌, ◌∷◌, [], ℕ, List, Option, ap, sym, ◌∙◌, subst, arith, false, IfSome, lt-ltb, Row, Costing, Plan, followed_by, plan_posts, StepDraft, IsDraft}
use Rattle.search_core.proofs.Drafted.{drafts_plan}
use Rattle.search_core.proofs.drafting.StepDraft.add_plan.Goals as goal

pub returns-in_ok-keep-clause-drafts : goal.returns-in_ok-keep-clause-drafts
returns-in_ok-keep-clause-drafts c = λ i b k cuts posts valid same dr.
    let p = c.in-Some.plan in
    let w = c.args.worker in
    let d = c.args.self.now in
    let k' = c.keep.new.self in
    let new : StepDraft = record { posts = k'.posts; values = k'.values; best = c.cost-cost.result; floor = k'.floor } in
    let here : p.instance ≡ i = subst (λ (o : Option Costing). IfSome o (λ (q : Costing). q.instance ≡ i)) c.in-Some.is same in
    let cost : c.cost-cost.result ≡ p.cost = c.cost-cost.ensures.cost in
    let items : k'.posts.items ≡ d.posts.items ++ Plan w p.rows p.cost ∷ [] =
    c.in_ok-keep.ensures.post
    ∙ ap (λ (rows : List Row). d.posts.items ++ Plan w rows c.cost-cost.result ∷ []) c.into_rows-rows.ensures.rows
    ∙ ap (λ (n : ℕ). d.posts.items ++ Plan w p.rows n ∷ []) cost in
    let numbers : k'.values.items ≡ d.values.items ++ p.cost ∷ [] = c.in_ok-keep.ensures.value ∙ ap (λ (n : ℕ). d.values.items ++ n ∷ []) cost in
    subst (λ (o : Option Costing). IsDraft i b k cuts (followed_by i b posts (plan_posts w o)) new false) (sym c.in-Some.is)
    (drafts_plan i b k cuts posts d new dr w p valid here c.cost-cost.ensures.costed (lt-ltb p.cost d.best (omega (arith, cost))) items numbers cost c.in_ok-keep.ensures.rest.1)
