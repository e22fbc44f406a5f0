use Rattle.bounds_tests.proofs.best_lists.tables_follow_the_prices.Given as goal

abbrev pub ghosts-are_followed : goal.ghosts-are_followed
ghosts-are_followed g a = record { name = a.blank.name; parts = a.blank.parts }
