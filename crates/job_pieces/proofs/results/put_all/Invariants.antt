use Rattle.std.proofs.Common.{◌≡◌, All, length}
use Rattle.job_pieces.specs.Results.{AreGiven}
use Rattle.job_pieces.proofs.results.put_all.Given as goal

abbrev pub invariant-loop-done : goal.invariant-loop-done
invariant-loop-done g l = record {
  left : All (λ done. All (λ d. g.J.Jobs.gives l.jobs d.at d.output) done.items) l.done-iterator.rest.items;
  count : length l.slots.items ≡ length l.initial.slots.items;
  given : AreGiven (g.J.Jobs.gives l.jobs) l.slots.items;
}
