use Rattle.join_runs.proofs.Common.{◌∙◌, map, subst, sym, SinkMet, JoinStatus, NoPart, IsUnjoined, PartsMet, EndsBeforeParts}
use Rattle.join_runs.proofs.Endings.{told_part, told_refusal}
use Rattle.join_runs.proofs.joining.run_over.Goals as goal

pub returns-in-Ok-refused_line-clause-status : goal.returns-in-Ok-refused_line-clause-status
returns-in-Ok-refused_line-clause-status g c =
    let P = g.P.Source in
    let K = g.K.Sink in
    let told = c.tell-in-Ok-refused_line in
    let parts : PartsMet = record { left = map P.left c.args.parts.now; faults = (map P.faults c.args.parts.now, map P.faults c.joined_text.new.parts) } in
    let sink : SinkMet = record { held = K.held c.args.out.now; held_after = K.held told.new.out; faults = (K.faults c.args.out.now, K.faults told.new.out) } in
    told_refusal c.args.instance.now c.args.whole parts sink c.in-Err-Refused.why c.as_bytes.result.now told.result (subst (IsUnjoined c.args.instance.now c.args.whole parts) c.in-Err-Refused.field-0-is c.in-Err-Refused.ensures.status) c.in-Ok-refused_line.ensures.named
    (c.as_bytes.ensures.value ∙ c.in-Ok-refused_line.ensures.said) told.ensures

pub returns-in-Ok-part_line-clause-status : goal.returns-in-Ok-part_line-clause-status
returns-in-Ok-part_line-clause-status g c =
    let P = g.P.Source in
    let K = g.K.Sink in
    let told = c.tell-in-Ok-part_line in
    let parts : PartsMet = record { left = map P.left c.args.parts.now; faults = (map P.faults c.args.parts.now, map P.faults c.joined_text.new.parts) } in
    let sink : SinkMet = record { held = K.held c.args.out.now; held_after = K.held told.new.out; faults = (K.faults c.args.out.now, K.faults told.new.out) } in
    let why : IsUnjoined c.args.instance.now c.args.whole parts (NoPart c.in-Err-NoPart.part c.in-Err-NoPart.cause) = subst (IsUnjoined c.args.instance.now c.args.whole parts) c.in-Err-NoPart.field-0-is c.in-Err-NoPart.ensures.status in
    told_part c.args.instance.now c.args.whole parts sink c.in-Err-NoPart.part c.in-Err-NoPart.cause c.as_bytes-in-Ok-part_line.result.now told.result why.0 c.in-Ok-part_line.ensures.named
    (c.as_bytes-in-Ok-part_line.ensures.value ∙ c.in-Ok-part_line.ensures.said) told.ensures

pub returns-in-Ok-refused_line-clause-parts_untouched : goal.returns-in-Ok-refused_line-clause-parts_untouched
returns-in-Ok-refused_line-clause-parts_untouched g c =
    λ early.
    c.in-Err-Refused.ensures.untouched (subst (λ (s : JoinStatus). EndsBeforeParts s) (sym c.in-Err-Refused.field-0-is) tt)
