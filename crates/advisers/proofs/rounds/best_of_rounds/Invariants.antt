use Rattle.advisers.proofs.Common.{◌≡◌, IsSearched, pricing_in}
use Rattle.advisers.proofs.rounds.best_of_rounds.Given as goal

abbrev pub invariant-loop-round : goal.invariant-loop-round
invariant-loop-round g l = record {
  at : l.pricer ≡ pricing_in l.instance l.cuts l.q l.round;
  searched : IsSearched l.instance l.cuts l.q l.goal l.round l.best;
}
