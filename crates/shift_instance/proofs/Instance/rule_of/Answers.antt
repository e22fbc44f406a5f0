use Rattle.shift_instance.proofs.Common.{◌≡◌, ℕ, ◌∙◌, ap, arith, get_or, subst, sym, slice_get, IsSomeAnd, ranges_from_none, Kind, shift_list}
use Rattle.shift_instance.proofs.Shifts.{rule_found, found_passes}
use Rattle.shift_instance.proofs.Instance.rule_of.Goals as goal

pub index-kind-requires : goal.index-kind-requires
index-kind-requires c =
    let y = c.shift-shift.result in
    let r = rule_found _ c.args.self.now c.args.shift y (c.parts.view_is ∙ c.self.view_is) c.requires c.shift-shift.ensures.shift in
    let small = r.0 in
    omega (arith, c.parts.inside.types.ok.0)

pub returns-clause-rule : goal.returns-clause-rule
returns-clause-rule c =
    let y = c.shift-shift.result in
    let r = rule_found _ c.args.self.now c.args.shift y (c.parts.view_is ∙ c.self.view_is) c.requires c.shift-shift.ensures.shift in
    let kind = c.index-kind.result.now in
    let read : kind ≡ get_or c.parts.inside.types.items y.kind kind = c.index-kind.ensures ∙ ap (λ (n : ℕ). get_or c.parts.inside.types.items n kind) c.from.ensures in
    subst (λ (k : Kind). IsSomeAnd (slice_get (shift_list c.args.self.now) c.args.shift) (λ x. k.rule ≡ x.1)) (sym c.kind.view_is) (r.1 kind read)

pub returns-clause-passes : goal.returns-clause-passes
returns-clause-passes c = found_passes c.args.self.now c.args.shift _ c.shift-shift.ensures.valid c.requires (returns-clause-rule c)

pub returns-clause-within : goal.returns-clause-within
returns-clause-within c = ranges_from_none _ (returns-clause-passes c)
