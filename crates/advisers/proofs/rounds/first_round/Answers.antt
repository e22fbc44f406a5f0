use Rattle.advisers.proofs.Common.{sym, ap, ◌∙◌, Prices}
use Rattle.advisers.proofs.Searching.{first_round}
use Rattle.advisers.proofs.rounds.first_round.Goals as goal

pub returns-in-Ok : goal.returns-in-Ok
returns-in-Ok g c =
    let i = c.args.instance.now in
    let cuts = c.args.cuts.now in
    c.in-Ok.ensures.ok ∙ ap (λ (p : Prices). record { instance = i; cuts = cuts; prices = p }) (c.in_ok-prices.ensures ∙ sym (first_round i cuts c.args.q))
