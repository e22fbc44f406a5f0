use Rattle.report_joins.proofs.Common.{◌∙◌, sym, Decides-int_eq, slice_eq-Decides}
use Rattle.report_joins.proofs.same_lines.has_same_slots.Goals as goal

pub returns : goal.returns
returns c =
    let d = slice_eq-Decides Decides-int_eq c.as_slice.result.now c.as_slice-2.result.now c.eq.result c.eq.ensures in
    (λ h. sym c.as_slice.ensures ∙ d.0 h ∙ c.as_slice-2.ensures, λ e. d.1 (c.as_slice.ensures ∙ e ∙ sym c.as_slice-2.ensures))
