use Rattle.instance_warnings.proofs.Common.{◌≡◌, ℕ, ap, ◌∙◌, Problem, cover}
use Rattle.instance_warnings.proofs.Reached.{missed_reached, reached_in_cover}
use Rattle.instance_warnings.proofs.reaching.consider.Goals as goal

pub returns-then-working-ne0-clause-list : goal.returns-then-working-ne0-clause-list
returns-then-working-ne0-clause-list c =
    let i = c.args.instance.now in
    let duties = c.args.cover.now.duties in
    let working : c.working.result ≡ cover i duties c.args.t = c.working.ensures ∙ ap (λ (p : Problem). cover p duties c.from-at.result) c.requires.instance ∙ ap (λ (n : ℕ). cover i duties n) c.from-at.ensures in
    λ legal. missed_reached i c.args.t c.args.list.now.items (reached_in_cover i c.args.t duties legal (λ none. c.if-working-ne0.true (working ∙ none)))
