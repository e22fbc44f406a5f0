use Rattle.worker_gate.proofs.Common.{List, subst, ◌∙◌, Cut, FitsClose}
use Rattle.worker_gate.proofs.worker.closed_again.Goals as goal

pub returns-clause-fits : goal.returns-clause-fits
returns-clause-fits c = record {
  plan = c.requires.fits.plan;
  proved = c.requires.fits.proved;
  close = subst (λ (cuts : List Cut). FitsClose c.args.instance.now cuts c.in_ok-close.close) (c.in_ok-cuts.ensures ∙ c.cuts.ensures.cuts) c.in_ok-close.ensures.fits;
}
