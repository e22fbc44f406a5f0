use Rattle.advisers.proofs.rounds.best_prices.Given as goal

abbrev pub ghosts-best_of_rounds : goal.ghosts-best_of_rounds
ghosts-best_of_rounds a = record { name = a.blank.name; parts = a.blank.parts }
