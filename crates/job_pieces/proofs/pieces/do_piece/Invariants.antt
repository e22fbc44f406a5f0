use Rattle.std.proofs.Common.{All}
use Rattle.job_pieces.proofs.pieces.do_piece.Given as goal

abbrev pub invariant-loop-at : goal.invariant-loop-at
invariant-loop-at g l = record {
  serves : g.J.Jobs.serves l.jobs l.kept;
  done : All (λ d. g.J.Jobs.gives l.jobs d.at d.output) l.done.items;
}
