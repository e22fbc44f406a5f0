use Rattle.search_core.proofs.Common.{◌≡◌, Some, None, ap, rules, subst, sym, ◌∙◌, max, IsSome, Problem, Plan, step, plan_fault, StateView}
use Rattle.search_core.proofs.Allowed.{plan_allowed, refuses}
use Rattle.search_core.proofs.state.State.step_plan.Goals as goal

pub returns-in-Some-clause-err : goal.returns-in-Some-clause-err
returns-in-Some-clause-err c =
    let old = c.args.self.now in
    let is : c.plan_fault.result ≡ Some c.in-Some.fault = search rules in
    refuses _ c.in-Some.fault
    (ap (λ b. plan_fault old.instance b c.args.rows c.args.cost) (sym c.cost.ensures.cost)
    ∙ ap (λ (i : Problem). plan_fault i c.cost.result c.args.rows c.args.cost) (sym c.requires)
    ∙ sym c.plan_fault.ensures ∙ is)

pub append-requires-clause-allowed : goal.append-requires-clause-allowed
append-requires-clause-allowed c =
    let old = c.args.self.now in
    let none : c.plan_fault.result ≡ None = search rules in
    let room : c.reserve.new.self ≡ record old { spare = max old.spare 1 } = search rules in
    subst (λ (v : StateView). IsSome (step v.instance v.book (Plan c.args.worker c.args.rows c.args.cost))) (sym room)
    (plan_allowed old.instance old.book c.args.worker c.args.cost c.cost.result c.args.rows c.cost.ensures.cost
    (ap (λ (i : Problem). plan_fault i c.cost.result c.args.rows c.args.cost) (sym c.requires) ∙ sym c.plan_fault.ensures ∙ none))
