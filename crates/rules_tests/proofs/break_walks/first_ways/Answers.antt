use Rattle.std.proofs.Common.{[]}
use Rattle.rules_tests.proofs.break_walks.first_ways.Goals as goal

pub ways-requires : goal.ways-requires
ways-requires c = ([], c.in-Some.ensures)
