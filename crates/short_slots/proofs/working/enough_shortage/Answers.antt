use Rattle.short_slots.proofs.Common.{◌≡◌, ◌*◌, ◌≤◌, arith, mul-le-mul_left, slots}
use Rattle.short_slots.proofs.Ones.{few_most}
use Rattle.short_slots.proofs.working.enough_shortage.Goals as goal

pub overflow_mul-result : goal.overflow_mul-result
overflow_mul-result c =
    let i = c.args.instance.now in
    let weight : c.from.result ≡ i.excess = cc in
    let few : c.args.most ≤ slots i = few_most i c.args.most c.requires in
    let slots_few : slots i ≤ 2016 = c.weights-excess.ensures.valid.few_slots in
    let light : i.excess ≤ 1000000 = c.weights-excess.ensures.valid.excess in
    let times : c.from.result * c.args.most ≤ c.from.result * 2016 = mul-le-mul_left c.from.result (omega arith) in
    omega arith

pub overflow_add-result : goal.overflow_add-result
overflow_add-result c =
    let i = c.args.instance.now in
    let weight : c.from.result ≡ i.excess = cc in
    let further : c.from-2.result ≡ i.shift = cc in
    let few : c.args.most ≤ slots i = few_most i c.args.most c.requires in
    let slots_few : slots i ≤ 2016 = c.weights-excess.ensures.valid.few_slots in
    let light : i.excess ≤ 1000000 = c.weights-excess.ensures.valid.excess in
    let light_too : i.shift ≤ 1000000 = c.weights-excess.ensures.valid.shift in
    let times : c.from.result * c.args.most ≤ c.from.result * 2016 = mul-le-mul_left c.from.result (omega arith) in
    omega arith

pub overflow_add-result-2 : goal.overflow_add-result-2
overflow_add-result-2 c =
    let i = c.args.instance.now in
    let weight : c.from.result ≡ i.excess = cc in
    let further : c.from-2.result ≡ i.shift = cc in
    let few : c.args.most ≤ slots i = few_most i c.args.most c.requires in
    let slots_few : slots i ≤ 2016 = c.weights-excess.ensures.valid.few_slots in
    let light : i.excess ≤ 1000000 = c.weights-excess.ensures.valid.excess in
    let light_too : i.shift ≤ 1000000 = c.weights-excess.ensures.valid.shift in
    let times : c.from.result * c.args.most ≤ c.from.result * 2016 = mul-le-mul_left c.from.result (omega arith) in
    omega arith
