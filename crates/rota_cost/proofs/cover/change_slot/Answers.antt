use Rattle.rota_cost.proofs.Common.{◌≡◌, ◌+◌, ◌*◌, ◌≤◌, get_or, set, arith, slots, slot_cost, slots_cost}
use Rattle.rota_cost.proofs.Sums.{sum_below_at, sum_below_set, slots_most}
use Rattle.rota_cost.proofs.cover.change_slot.Goals as goal

pub overflow_sub-result : goal.overflow_sub-result
overflow_sub-result c =
    let i = c.args.instance.now in
    let t = c.args.t in
    let old = c.args.working.now in
    let part : slot_cost i t (get_or old t 0) ≤ slots_cost i old = sum_below_at (λ t. slot_cost i t (get_or old t 0)) (slots i) t c.requires.t in
    let here : c.slot_cost.result ≡ slot_cost i t (get_or old t 0) = c.slot_cost.ensures.cost in
    let all : c.args.cost ≡ slots_cost i old = c.requires.cost in
    omega arith

pub overflow_add-result : goal.overflow_add-result
overflow_add-result c =
    let i = c.args.instance.now in
    let most : slots_cost i c.args.working.now ≤ 2016 * (1000000 * 2147483649 + 10000000000) = slots_most i c.args.working.now 2147483649 c.requires.valid c.requires.few in
    let all : c.args.cost ≡ slots_cost i c.args.working.now = c.requires.cost in
    omega arith

pub returns-clause-cost : goal.returns-clause-cost
returns-clause-cost c =
    let i = c.args.instance.now in
    let t = c.args.t in
    let old = c.args.working.now in
    let v = c.changed-after.result in
    let part : slot_cost i t (get_or old t 0) ≤ slots_cost i old = sum_below_at (λ t. slot_cost i t (get_or old t 0)) (slots i) t c.requires.t in
    let here : c.slot_cost.result ≡ slot_cost i t (get_or old t 0) = c.slot_cost.ensures.cost in
    let there : c.slot_cost-2.result ≡ slot_cost i t v = c.slot_cost-2.ensures.cost in
    let all : c.args.cost ≡ slots_cost i old = c.requires.cost in
    let step : slots_cost i (set old t v) + slot_cost i t (get_or old t 0) ≡ slots_cost i old + slot_cost i t v = sum_below_set (slot_cost i) old (slots i) t v c.requires.t (omega (arith, c.requires.slots)) in
    omega arith
