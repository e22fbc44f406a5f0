use Rattle.instance_json.proofs.Common.{◌≡◌, ap, ◌∙◌, subst, sym, length, rules, None, legal_lists, first_cause, instance_causes, Problem, shift_list, generated}
use Rattle.std.specs.Prelude.{All}
use Rattle.instance_json.proofs.Generation.{faultless, six_shifts, four_lists}
use Rattle.instance_json.proofs.generating.generate.Goals as goal

pub unreachable-requires : goal.unreachable-requires
unreachable-requires c =
    let none : first_cause (instance_causes c.in_ok-parts.field-0) ≡ None = ap (λ (i : Problem). first_cause (instance_causes i)) c.in_ok-parts.ensures ∙ faultless c.args.number in
    search rules

pub returns-in-Ok-clause-shifts : goal.returns-in-Ok-clause-shifts
returns-in-Ok-clause-shifts c =
    let is : c.in-Ok.instance ≡ generated c.args.number = c.in-Ok.ensures.ok ∙ c.in_ok-parts.ensures in
    ap (λ (i : Problem). length (shift_list i)) is ∙ six_shifts c.args.number

pub returns-in-Ok-clause-lists : goal.returns-in-Ok-clause-lists
returns-in-Ok-clause-lists c =
    let is : c.in-Ok.instance ≡ generated c.args.number = c.in-Ok.ensures.ok ∙ c.in_ok-parts.ensures in
    subst (λ (i : Problem). All (λ x. length (legal_lists x.1 x.0.len) ≡ 4) (shift_list i)) (sym is) (four_lists c.args.number)
