use Rattle.advisers.proofs.Common.{◌≡◌, map, below, rota_of, price_of, next_slot_price}
use Rattle.advisers.proofs.stepping.next_slot_prices.Given as goal

abbrev pub invariant-loop-t : goal.invariant-loop-t
invariant-loop-t l = l.next.items ≡ map (λ t. next_slot_price l.instance l.q l.step (rota_of l.rows) t (price_of l.prices t)) (below l.t)
