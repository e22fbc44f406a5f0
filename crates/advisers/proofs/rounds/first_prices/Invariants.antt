use Rattle.advisers.proofs.Common.{◌≡◌, pos, ◌*ℤ◌, map, take}
use Rattle.advisers.proofs.rounds.first_prices.Given as goal

abbrev pub invariant-loop-t : goal.invariant-loop-t
invariant-loop-t l = l.slots.items ≡ map (λ p. p *ℤ pos l.q) (take l.t l.forced.items)
