use Rattle.advisers.proofs.Common.{◌≡◌, ◌++◌, map, zip, rota_of, pairs_from, next_cut_price}
use Rattle.advisers.proofs.stepping.next_cut_prices.Given as goal

abbrev pub invariant-loop-k : goal.invariant-loop-k
invariant-loop-k l = l.next.items ++ map (next_cut_price l.step (rota_of l.rows)) (pairs_from l.cuts l.prices l.k) ≡ map (next_cut_price l.step (rota_of l.rows)) (zip l.cuts l.prices)
