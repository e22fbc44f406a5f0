use Rattle.plan_tables.proofs.Common.{◌≡◌, ◌+◌, ap, ◌∙◌, rules, arith, rota_of, excess_part, shifts_part, shortage_part}
use Rattle.plan_tables.specs.declared.summary.CostPart.{CostPart}
use Rattle.plan_tables.proofs.SlotSums.{cost_parts}
use Rattle.plan_tables.proofs.summary.Summary.new.Goals as goal

pub returns-clause-parts : goal.returns-clause-parts
returns-clause-parts c =
    let i = c.args.instance.now in
    let rota = rota_of c.args.rows.now in
    let excess : c.new-2.result ≡ excess_part i rota = search rules in
    let shortage : c.new-3.result ≡ shortage_part i rota = search rules in
    let shifts : c.new-4.result ≡ shifts_part i rota = search rules in
    let a : c.new-2.result.cost ≡ (excess_part i rota).cost = ap (λ (p : CostPart). p.cost) excess in
    let b : c.new-3.result.cost ≡ (shortage_part i rota).cost = ap (λ (p : CostPart). p.cost) shortage in
    let d : c.new-4.result.cost ≡ (shifts_part i rota).cost = ap (λ (p : CostPart). p.cost) shifts in
    let all : c.recount.result ≡ (excess_part i rota).cost + (shortage_part i rota).cost + (shifts_part i rota).cost = c.recount.ensures.cost ∙ cost_parts i rota in
    omega arith
