use Rattle.instance_warnings.proofs.Common.{◌≡◌, ap, sym, ◌∙◌, Problem}
use Rattle.shift_instance.proofs.Made.{ruled_kinds}
use Rattle.instance_warnings.proofs.judging.warnings.Goals as goal

pub push_kinds-requires-clause-rules : goal.push_kinds-requires-clause-rules
push_kinds-requires-clause-rules c =
    let i = c.args.instance.now in
    let same : c.as_slice.result.now ≡ i.kinds = c.as_slice.ensures.value ∙ ap (λ (p : Problem). p.kinds) c.parts.view_is ∙ ap (λ (p : Problem). p.kinds) c.parts-parts.ensures.parts in
    ruled_kinds i c.as_slice.result.now (sym c.parts-parts.ensures.faultless) same
