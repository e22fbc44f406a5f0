use Rattle.std.proofs.Common.{◌≡◌, All, length}
use Rattle.job_pieces.specs.Results.{AreGiven}
use Rattle.job_pieces.proofs.results.put_done.Given as goal

abbrev pub invariant-loop-one : goal.invariant-loop-one
invariant-loop-one g l = record {
  left : All (λ d. g.J.Jobs.gives l.jobs d.at d.output) l.one-iterator.rest.items;
  count : length l.slots.items ≡ length l.initial.slots.items;
  given : AreGiven (g.J.Jobs.gives l.jobs) l.slots.items;
}
