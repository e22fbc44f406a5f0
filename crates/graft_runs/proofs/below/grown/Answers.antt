use Rattle.std.proofs.lemmas.Result.{err_from_is_err_and}
use Rattle.graft_runs.proofs.Common.{limit_of}
use Rattle.graft_runs.proofs.Endings.{own_cuts}
use Rattle.graft_runs.proofs.Planned.{run_instance}
use Rattle.graft_runs.proofs.Texts.{grown_agrees}
use Rattle.graft_runs.proofs.below.grown.Goals as goal

pub graft-requires-clause-same : goal.graft-requires-clause-same
graft-requires-clause-same c =
    let s = c.requires.searched in
    run_instance c.args.instance.now c.args.run.now.base (limit_of c.args.whole.now) s.0 c.args.run.now s.2

pub returns-in_err-cert-clause-fault : goal.returns-in_err-cert-clause-fault
returns-in_err-cert-clause-fault c =
    let p = err_from_is_err_and c.from_residual.result c.from_residual.ensures.1 in
    rw (p.1, p.2) (own_cuts c.args.instance.now c.args.whole.now c.args.node c.args.run.now.base c.in_err-cert.field-0.0 c.requires.end c.in_err-cert.ensures.fault)

pub returns-clause-agrees : goal.returns-clause-agrees
returns-clause-agrees c =
    let s = c.requires.searched in
    grown_agrees c.args.instance.now c.args.whole.now c.in_ok-cert.cert c.args.node s.0 c.args.run.now.base c.args.run.now c.slots-valid.ensures.valid c.requires.few s.1 s.2 c.in_ok-cert.ensures.accepted c.in_ok-cert.ensures.lines
    c.in_ok-cert.ensures.agrees
