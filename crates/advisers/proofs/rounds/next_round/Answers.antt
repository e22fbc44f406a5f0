use Rattle.advisers.proofs.Common.{ℕ, sym, ap, ◌∙◌, Prices, Pricing, next_prices, step_in}
use Rattle.advisers.proofs.Searching.{next_round}
use Rattle.advisers.proofs.rounds.next_round.Goals as goal

pub next_prices-requires : goal.next_prices-requires
next_prices-requires g c = (ap (λ (p : Pricing). p.instance) c.requires.round, ap (λ (p : Pricing). p.cuts) c.requires.round)

pub reprice-requires : goal.reprice-requires
reprice-requires g c = ap (λ (p : Pricing). p.instance) c.requires.round

pub returns-in-Ok : goal.returns-in-Ok
returns-in-Ok g c =
    let i = c.args.instance.now in
    let cuts = c.args.cuts.now in
    let old = c.args.pricer.now in
    c.in-Ok.ensures.ok
    ∙ ap (λ (p : Pricing). record { instance = p.instance; cuts = p.cuts; prices = c.in_ok-prices.prices }) c.requires.round
    ∙ ap (λ (p : Prices). record { instance = i; cuts = cuts; prices = p })
    (c.in_ok-prices.ensures
    ∙ ap (λ (step : ℕ). next_prices i cuts step old.prices) c.step_in.ensures
    ∙ ap (λ (p : Pricing). next_prices i cuts (step_in c.args.q c.args.round) p.prices) c.requires.round
    ∙ sym (next_round i cuts c.args.q c.args.round))
