use Rattle.std.proofs.Common.{◌∙◌}
use Rattle.std.proofs.lemmas.List.Elements.{All-rest}
use Rattle.job_pieces.proofs.results.put_done.Goals as goal

pub loop-one-preserved : goal.loop-one-preserved
loop-one-preserved g c = record {
  left = All-rest (λ d. g.J.Jobs.gives c.args.jobs.now d.at d.output) c.in-Some.one _ _ c.in-Some.ensures.steps.0 c.loop-one.invariant.left;
  count = c.put_one.ensures.count ∙ c.loop-one.invariant.count;
  given = c.put_one.ensures.given;
}
