use Rattle.std.proofs.Common.{◌∙◌, All}
use Rattle.std.proofs.lemmas.List.Elements.{All-rest}
use Rattle.job_pieces.proofs.results.put_all.Goals as goal

pub loop-done-preserved : goal.loop-done-preserved
loop-done-preserved g c = record {
  left = All-rest (λ done. All (λ d. g.J.Jobs.gives c.args.jobs.now d.at d.output) done.items) c.in-Some.done _ _ c.in-Some.ensures.steps.0 c.loop-done.invariant.left;
  count = c.put_done.ensures.count ∙ c.loop-done.invariant.count;
  given = c.put_done.ensures.given;
}
