use Rattle.advisers.proofs.Common.{◌≡◌, map, below, cover, balance_price, forced_rota}
use Rattle.advisers.proofs.forced.forced_prices.Given as goal

abbrev pub invariant-loop-t : goal.invariant-loop-t
invariant-loop-t l = l.prices.items ≡ map (λ t. balance_price l.instance t (cover l.instance (forced_rota l.instance l.cuts) t)) (below l.t)
