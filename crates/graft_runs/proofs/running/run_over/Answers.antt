use Rattle.graft_runs.proofs.Common.{◌∙◌, ℕ, List, subst, SinkMet, Written, Refused, Told}
use Rattle.graft_runs.proofs.Endings.{told_ends, told_fault, told_text}
use Rattle.graft_runs.proofs.running.run_over.Goals as goal

pub returns-in-Ok-clause-status : goal.returns-in-Ok-clause-status
returns-in-Ok-clause-status g c =
    let K = g.K.Sink in
    let P = g.P.Stop in
    let sink : SinkMet = record { held = K.held c.args.out.now; held_after = K.held c.tell.new.out; faults = (K.faults c.args.out.now, K.faults c.tell.new.out) } in
    told_text (P.can_ask c.args.stop.now) c.args.command c.args.instance.now c.args.whole.now sink c.in-Ok.text.items c.tell.result c.in-Ok.ensures.text
    (subst (λ (bs : List ℕ). Told bs Written (sink.held, sink.held_after) sink.faults c.tell.result) c.as_slice.ensures.value c.tell.ensures)

pub returns-in-Ok-clause-unwritten : goal.returns-in-Ok-clause-unwritten
returns-in-Ok-clause-unwritten g c =
    let K = g.K.Sink in
    λ unwritten.
    absurd (told_ends c.as_slice.result.now Written (K.held c.args.out.now, K.held c.tell.new.out) (K.faults c.args.out.now, K.faults c.tell.new.out) c.tell.result (λ none. none) c.tell.ensures unwritten)

pub returns-in-Ok-refusal_line-clause-status : goal.returns-in-Ok-refusal_line-clause-status
returns-in-Ok-refusal_line-clause-status g c =
    let K = g.K.Sink in
    let P = g.P.Stop in
    let told = c.tell-in-Ok-refusal_line in
    let sink : SinkMet = record { held = K.held c.args.out.now; held_after = K.held told.new.out; faults = (K.faults c.args.out.now, K.faults told.new.out) } in
    told_fault (P.can_ask c.args.stop.now) c.args.command c.args.instance.now c.args.whole.now sink c.in-Err.fault c.as_bytes.result.now told.result c.in-Err.ensures.fault c.in-Ok-refusal_line.ensures.named
    (c.as_bytes.ensures.value ∙ c.in-Ok-refusal_line.ensures.said) told.ensures

pub returns-in-Ok-refusal_line-clause-unwritten : goal.returns-in-Ok-refusal_line-clause-unwritten
returns-in-Ok-refusal_line-clause-unwritten g c =
    let K = g.K.Sink in
    let told = c.tell-in-Ok-refusal_line in
    λ unwritten.
    absurd (told_ends c.as_bytes.result.now (Refused c.in-Err.fault) (K.held c.args.out.now, K.held told.new.out) (K.faults c.args.out.now, K.faults told.new.out) told.result (λ none. none) told.ensures unwritten)
