use Rattle.descents.proofs.Common.{◌≡◌, map, below, cover, rota_of, marginal_price}
use Rattle.descents.proofs.best.marginal_prices.Given as goal

abbrev pub invariant-loop-t : goal.invariant-loop-t
invariant-loop-t l = l.prices.items ≡ map (λ t. marginal_price l.instance t (cover l.instance (rota_of l.draft.rows) t)) (below l.t)
