use Rattle.greedy.proofs.Common.{◌≡◌, map, below, cover, marginal_price}
use Rattle.greedy.proofs.prices.marginal_prices.Given as goal

abbrev pub invariant-loop-t : goal.invariant-loop-t
invariant-loop-t l = l.prices.items ≡ map (λ t. marginal_price l.instance t (cover l.instance l.cover.duties t)) (below l.t)
