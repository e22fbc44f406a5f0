use Rattle.shift_instance.proofs.Common.{sym, ◌∙◌, false≢true}
use Rattle.std.proofs.lemmas.Slice.Eq.{slice_eq-Decides}
use Rattle.shift_instance.proofs.SameRules.{same_pair_decides, same_lunch_decides}
use Rattle.shift_instance.proofs.graphs.have_same_lists.Goals as goal

pub returns-then-eq : goal.returns-then-eq
returns-then-eq c =
    let t = slice_eq-Decides same_pair_decides c.as_slice.result.now c.as_slice-2.result.now c.eq.result c.eq.ensures in
    let l = slice_eq-Decides same_lunch_decides c.as_slice-then-eq.result.now c.as_slice-then-eq-2.result.now c.eq-then-eq.result c.eq-then-eq.ensures in (
      λ h. (sym c.as_slice.ensures ∙ t.0 c.if-eq.true ∙ c.as_slice-2.ensures, sym c.as_slice-then-eq.ensures ∙ l.0 h ∙ c.as_slice-then-eq-2.ensures),
      λ e. l.1 (c.as_slice-then-eq.ensures ∙ e.1 ∙ sym c.as_slice-then-eq-2.ensures),
    )

pub returns-else-eq : goal.returns-else-eq
returns-else-eq c =
    let t = slice_eq-Decides same_pair_decides c.as_slice.result.now c.as_slice-2.result.now c.eq.result c.eq.ensures in
    (λ h. absurd (false≢true (sym c.if-eq.false ∙ h)), λ e. absurd (false≢true (sym c.if-eq.false ∙ t.1 (c.as_slice.ensures ∙ e.0 ∙ sym c.as_slice-2.ensures))))
