use Rattle.join_runs.proofs.Common.{map, string_bytes, Met}
use Rattle.join_runs.proofs.Completed.{completed}
use Rattle.join_runs.proofs.Endings.{explained}
use Rattle.join_runs.proofs.joining.join_top.Goals as goal

pub returns-in-Ok-clause-complete : goal.returns-in-Ok-clause-complete
returns-in-Ok-clause-complete g c =
    let S = g.S.Source in
    let T = g.T.Source in
    let P = g.P.Source in
    let K = g.K.Sink in
    let met : Met = record {
      words = map string_bytes c.args.words.now;
      document = record { left = S.left c.args.instance.now; faults = (S.faults c.args.instance.now, S.faults c.read_instance.new.input) };
      report = record { left = T.left c.args.bundle.now; faults = (T.faults c.args.bundle.now, T.faults c.run_report.new.bundle) };
      parts = record { left = map P.left c.args.parts.now; faults = (map P.faults c.args.parts.now, map P.faults c.run_report.new.parts) };
      sink = record { held = K.held c.args.out.now; held_after = K.held c.run_report.new.out; faults = (K.faults c.args.out.now, K.faults c.run_report.new.out) };
    } in
    λ can. completed met c.run_report.result (explained met c.in-Ok.instance c.run_report.result can.command c.in-Ok.ensures.ok c.run_report.ensures.status) can
