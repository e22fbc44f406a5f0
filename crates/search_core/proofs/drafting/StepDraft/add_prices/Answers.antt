use Rattle.search_core.proofs.Common.{◌≡◌, ◌++◌, ◌∷◌, [], ℕ, ap, ◌∙◌, subst, arith, max, IsTrue, lt-ltb, Problem, Prices, are_prices, bound_of, Priced, StepDraft}
use Rattle.search_core.proofs.Drafted.{drafts_prices}
use Rattle.search_core.proofs.drafting.StepDraft.add_prices.Goals as goal

pub returns-in_ok-keep-clause-drafts : goal.returns-in_ok-keep-clause-drafts
returns-in_ok-keep-clause-drafts c = λ i b posts valid same dr.
    let p = c.args.proved in
    let w = c.args.worker in
    let k = c.args.node in
    let d = c.args.self.now in
    let k' = c.keep.new.self in
    let new : StepDraft = record { posts = k'.posts; values = k'.values; best = k'.best; floor = c.max-self.result } in
    let bound : c.bound-value.result ≡ p.bound = c.bound-value.ensures.bound in
    let passes : IsTrue (are_prices i p.cuts p.prices) = subst (λ (j : Problem). IsTrue (are_prices j p.cuts p.prices)) same c.bound-value.ensures.proved.passes in
    let exact : p.bound ≡ bound_of i p.cuts p.prices = c.bound-value.ensures.proved.exact ∙ ap (λ (j : Problem). bound_of j p.cuts p.prices) same in
    let items : k'.posts.items ≡ d.posts.items ++ Priced w k p.prices ∷ [] =
    c.in_ok-keep.ensures.post ∙ ap (λ (prices : Prices). d.posts.items ++ Priced w k prices ∷ []) c.into_parts-cuts.ensures.prices in
    let numbers : k'.values.items ≡ d.values.items ++ p.bound ∷ [] = c.in_ok-keep.ensures.value ∙ ap (λ (n : ℕ). d.values.items ++ n ∷ []) bound in
    drafts_prices i b k p.cuts posts d new dr w p.prices p.bound valid passes exact c.requires (lt-ltb d.floor d.best (omega arith)) items numbers c.in_ok-keep.ensures.rest.0 (c.max-self.ensures ∙ ap (λ (n : ℕ). max n c.bound-value.result) c.in_ok-keep.ensures.rest.1 ∙ ap (max d.floor) bound)
