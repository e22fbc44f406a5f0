use Rattle.shift_instance.proofs.Common.{ap, ◌∙◌, get_or, subst, IsValid}
use Rattle.shift_instance.proofs.Shifts.{shift_found, found_within}
use Rattle.shift_instance.proofs.Instance.shift.Goals as goal

pub returns-clause-shift : goal.returns-clause-shift
returns-clause-shift c =
    let y = c.index.result.now in
    let shifts = c.self.inside.shifts.items in
    shift_found c.self.inside.parts c.args.self.now shifts c.args.shift y c.self.view_is c.self.invariant.listed c.requires (c.index.ensures ∙ ap (λ (k : _). get_or shifts k y) c.from.ensures)

pub returns-clause-within : goal.returns-clause-within
returns-clause-within c =
    let valid = subst (λ i. IsValid i) c.self.view_is c.self.invariant.valid in
    found_within c.args.self.now c.args.shift c.index.result.now valid c.requires (returns-clause-shift c)
