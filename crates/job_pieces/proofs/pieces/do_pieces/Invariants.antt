use Rattle.std.proofs.Common.{All}
use Rattle.job_pieces.proofs.pieces.do_pieces.Given as goal

abbrev pub invariant-loop : goal.invariant-loop
invariant-loop g l = record {
  serves : g.J.Jobs.serves l.jobs l.kept;
  done : All (λ d. g.J.Jobs.gives l.jobs d.at d.output) l.done.items;
}
