use Rattle.graft_runs.proofs.Common.{map, string_bytes, Met, Explains}
use Rattle.graft_runs.proofs.Completed.{completed}
use Rattle.graft_runs.proofs.Endings.{asked_for, explained}
use Rattle.graft_runs.proofs.running.graft_top_by.Goals as goal

pub returns-in-Ok-clause-status : goal.returns-in-Ok-clause-status
returns-in-Ok-clause-status g c =
    let S = g.S.Source in
    let T = g.T.Source in
    let K = g.K.Sink in
    let P = g.P.Stop in
    let met : Met = record {
      words = map string_bytes c.args.words.now;
      document = record { left = S.left c.args.instance.now; faults = (S.faults c.args.instance.now, S.faults c.read_instance.new.input) };
      report = record { left = T.left c.args.bundle.now; faults = (T.faults c.args.bundle.now, T.faults c.run_report.new.bundle) };
      sink = record { held = K.held c.args.out.now; held_after = K.held c.run_report.new.out; faults = (K.faults c.args.out.now, K.faults c.run_report.new.out) };
    } in
    explained (P.can_ask c.args.stop.now) met c.in-Some.request.command c.in-Ok.instance c.run_report.result
    (record { asked = asked_for _ c.request_of.result c.in-Some.request met.words c.request_of.ensures.asked c.in-Some.is; document = c.in-Ok.ensures.ok })
    c.run_report.ensures.status

pub returns-in-Ok-clause-complete : goal.returns-in-Ok-clause-complete
returns-in-Ok-clause-complete g c =
    let S = g.S.Source in
    let T = g.T.Source in
    let K = g.K.Sink in
    let P = g.P.Stop in
    let met : Met = record {
      words = map string_bytes c.args.words.now;
      document = record { left = S.left c.args.instance.now; faults = (S.faults c.args.instance.now, S.faults c.read_instance.new.input) };
      report = record { left = T.left c.args.bundle.now; faults = (T.faults c.args.bundle.now, T.faults c.run_report.new.bundle) };
      sink = record { held = K.held c.args.out.now; held_after = K.held c.run_report.new.out; faults = (K.faults c.args.out.now, K.faults c.run_report.new.out) };
    } in
    let why : Explains (P.can_ask c.args.stop.now) met c.run_report.result =
    explained (P.can_ask c.args.stop.now) met c.in-Some.request.command c.in-Ok.instance c.run_report.result
    (record { asked = asked_for _ c.request_of.result c.in-Some.request met.words c.request_of.ensures.asked c.in-Some.is; document = c.in-Ok.ensures.ok })
    c.run_report.ensures.status
    in
    λ can. completed (P.can_ask c.args.stop.now) met c.run_report.result why can
