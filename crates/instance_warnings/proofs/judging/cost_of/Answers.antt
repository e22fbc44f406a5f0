use Rattle.instance_warnings.proofs.Common.{◌≡◌, ℕ, ◌+◌, ◌*◌, ◌<◌, ◌≤◌, List, All, get_or, take, sum_by, ap, sym, subst, ◌∙◌, arith, All-get_or, sum_by_more_le, slots, need_at, unreached_cost}
use Rattle.instance_warnings.proofs.Reached.{unreached_within, unreached_few}
use Rattle.instance_warnings.proofs.judging.cost_of.Goals as goal

pub need-requires : goal.need-requires
need-requires c =
    let i = c.args.instance.now in
    let within : All (λ t. t < slots i) c.args.slots.now = subst (λ (xs : List ℕ). All (λ t. t < slots i) xs) (sym c.requires) (unreached_within i) in
    let item : get_or c.args.slots.now c.loop-t.t-index 0 < slots i = All-get_or (λ t. t < slots i) c.args.slots.now c.loop-t.t-index 0 c.loop-t-test.true within in
    subst (λ (n : ℕ). n < slots i) (sym c.from-in-loop-t.ensures) item

pub overflow_add-sum : goal.overflow_add-sum
overflow_add-sum c =
    let i = c.args.instance.now in
    let xs = c.args.slots.now in
    let k = c.loop-t.t-index in
    let f : ℕ → ℕ = λ t. i.shortage * need_at i t in
    let so_far : c.loop-t.sum ≡ sum_by f (take k xs) = c.loop-t.invariant in
    let part : sum_by f (take k xs) + f (get_or xs k 0) ≤ sum_by f xs = sum_by_more_le f xs k 0 c.loop-t-test.true in
    let whole : sum_by f xs ≡ unreached_cost i = ap (λ (ys : List ℕ). sum_by f ys) c.requires in
    let few : unreached_cost i < 1000000000000000 = unreached_few i c.weights-shortage.ensures.valid in
    let weight : c.from.result ≡ i.shortage = cc in
    let need : c.from-in-loop-t-2.result ≡ need_at i (get_or xs k 0) = c.from-in-loop-t-2.ensures ∙ c.need.ensures.need ∙ ap (λ (n : ℕ). need_at i n) c.from-in-loop-t.ensures in
    let term : c.from.result * c.from-in-loop-t-2.result ≡ f (get_or xs k 0) = ap (λ (n : ℕ). n * c.from-in-loop-t-2.result) weight ∙ ap (λ (n : ℕ). i.shortage * n) need in
    omega arith
