use Rattle.rota_cost.proofs.Common.{◌≡◌, ◌<◌, ◌∙◌, ap, arith, refl, rules, subst, sym, count_of, Covering, without}
use Rattle.rota_cost.proofs.Counts.{counted_less, moved, put_back, shift_paid, used_most}
use Rattle.rota_cost.proofs.cover.Cover.remove.Goals as goal

pub change_shift-self-inside-requires-clause-part :
    goal.change_shift-self-inside-requires-clause-part
change_shift-self-inside-requires-clause-part c =
    let i = c.args.instance.now in
    let v = c.self.inside in
    let same : v.covered.instance ≡ i = ap (λ (x : Covering). x.instance) c.self.view_is ∙ c.requires.instance in
    shift_paid i v.covered.duties v.working.items c.deref_mut.result.now v.slot_part v.shift_part c.args.duty.now.shift
    (moved i v.covered.instance v.covered.duties v.working.items v.shifts.items _ _ v.slot_part v.shift_part same refl (search rules) c.self.invariant) c.requires.shift

pub change_shift-self-inside-requires-clause-small :
    goal.change_shift-self-inside-requires-clause-small
change_shift-self-inside-requires-clause-small c =
    omega (arith, used_most c.self.inside.covered.instance c.self.inside.covered.duties c.self.invariant.valid, c.self.invariant.used)

pub invariant_of-self : goal.invariant_of-self
invariant_of-self c =
    let i = c.args.instance.now in
    let d = c.args.duty.now in
    let v = c.self.inside in
    let same : v.covered.instance ≡ i = ap (λ (x : Covering). x.instance) c.self.view_is ∙ c.requires.instance in
    let there : 0 < count_of v.covered.duties d = subst (λ (x : Covering). 0 < count_of x.duties d) (sym c.self.view_is) c.requires.there in
    put_back i c.without-self-inside.result.instance (without d v.covered.duties) c.without-self-inside.result.duties c.change_slots-self-inside.new.working c.change_shift-self-inside.new.shifts v.working.items v.shifts.items v.working.len v.shifts.len _ _
    (c.without-self-inside.ensures.0 ∙ same) c.without-self-inside.ensures.1 (search rules) (search rules) (search rules) (search rules)
    (counted_less i v.covered.duties d c.deref_mut-2.result.now c.deref_mut.result.now c.change_slots-self-inside.new.working c.change_shift-self-inside.new.shifts v.slot_part v.shift_part _ _ c.requires.shift there
    (moved i v.covered.instance v.covered.duties v.working.items v.shifts.items _ _ v.slot_part v.shift_part same (search rules) (search rules) c.self.invariant)
    (search rules) c.change_slots-self-inside.ensures.working c.change_slots-self-inside.ensures.cost c.change_shift-self-inside.ensures.shifts c.change_shift-self-inside.ensures.cost)
