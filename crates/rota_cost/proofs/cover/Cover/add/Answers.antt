use Rattle.rota_cost.proofs.Common.{◌≡◌, ◌<◌, ◌∷◌, [], ◌++◌, ◌∙◌, length, ap, arith, refl, rules, subst, sym, Covering}
use Rattle.rota_cost.proofs.Counts.{counted_more, moved, put_back, shift_paid, used_most}
use Rattle.rota_cost.proofs.cover.Cover.add.Goals as goal

pub change_shift-self-inside-requires-clause-part :
    goal.change_shift-self-inside-requires-clause-part
change_shift-self-inside-requires-clause-part c =
    let i = c.args.instance.now in
    let v = c.self.inside in
    let same : v.covered.instance ≡ i = ap (λ (x : Covering). x.instance) c.self.view_is ∙ c.requires.instance in
    shift_paid i v.covered.duties v.working.items c.deref_mut.result.now v.slot_part v.shift_part c.args.duty.now.shift
    (moved i v.covered.instance v.covered.duties v.working.items v.shifts.items _ _ v.slot_part v.shift_part same refl (search rules) c.self.invariant) c.requires.shift

pub change_shift-self-inside-requires-clause-small :
    goal.change_shift-self-inside-requires-clause-small
change_shift-self-inside-requires-clause-small c =
    omega (arith, used_most c.self.inside.covered.instance c.self.inside.covered.duties c.self.invariant.valid, c.self.invariant.used)

pub invariant_of-self : goal.invariant_of-self
invariant_of-self c =
    let i = c.args.instance.now in
    let d = c.args.duty.now in
    let v = c.self.inside in
    let same : v.covered.instance ≡ i = ap (λ (x : Covering). x.instance) c.self.view_is ∙ c.requires.instance in
    let few : length v.covered.duties < 2147483648 = subst (λ (x : Covering). length x.duties < 2147483648) (sym c.self.view_is) c.requires.room in
    put_back i c.with-self-inside.result.instance (v.covered.duties ++ d ∷ []) c.with-self-inside.result.duties c.change_slots-self-inside.new.working c.change_shift-self-inside.new.shifts v.working.items v.shifts.items v.working.len v.shifts.len _ _
    (c.with-self-inside.ensures.0 ∙ same) c.with-self-inside.ensures.1 (search rules) (search rules) (search rules) (search rules)
    (counted_more i v.covered.duties d c.deref_mut-2.result.now c.deref_mut.result.now c.change_slots-self-inside.new.working c.change_shift-self-inside.new.shifts v.slot_part v.shift_part _ _ c.requires.shift few
    (moved i v.covered.instance v.covered.duties v.working.items v.shifts.items _ _ v.slot_part v.shift_part same (search rules) (search rules) c.self.invariant)
    (search rules) c.change_slots-self-inside.ensures.working c.change_slots-self-inside.ensures.cost c.change_shift-self-inside.ensures.shifts c.change_shift-self-inside.ensures.cost)
