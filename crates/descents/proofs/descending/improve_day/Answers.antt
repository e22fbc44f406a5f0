use Rattle.descents.proofs.Common.{◌≡◌, ◌≤◌, ◌++◌, ◌∷◌, [], List, arith, IsTrue, OnFalse, IfOk-weaker, Break, cost, heads_on, is_list_of, rota_of, duty, none_at, Add, IsNoGain}
use Rattle.descents.proofs.Descents.{full_refused, none_refused, add_no_better}
use Rattle.descents.proofs.Tries.{add_tried, cost_at, false_weaker, some_at, if_some_at}
use Rattle.descents.proofs.descending.improve_day.Goals as goal

pub returns-then-heads-heads_on-clause-none : goal.returns-then-heads-heads_on-clause-none
returns-then-heads-heads_on-clause-none c =
    let i = c.args.instance.now in
    let rota = rota_of c.args.draft.now.rows in
    let full : i.heads ≤ heads_on rota c.args.shift c.args.day = omega arith in
    full_refused i rota c.args.shift c.args.day full

pub returns-in_default-clause-none : goal.returns-in_default-clause-none
returns-in_default-clause-none c =
    none_refused c.args.instance.now (rota_of c.args.draft.now.rows) c.args.shift c.args.day (none_at c.in_ok-breaks.field-0 _ c.in_default.is c.in_ok-breaks.ensures.cost)

pub returns-then-cost-clause-none : goal.returns-then-cost-clause-none
returns-then-cost-clause-none c =
    let i = c.args.instance.now in
    let rota = rota_of c.args.draft.now.rows in
    let s = c.args.shift in
    let day = c.args.day in
    let n = c.in-Some.cost in
    let now : c.cost.result ≡ cost i rota = cost_at i c.args.draft.now c.cost.result c.requires.instance c.cost.ensures.cost in
    let dear : cost i rota ≤ n = omega arith in
    add_no_better i rota s day n
    (if_some_at c.in_ok-breaks.field-0 (λ b. (list : List Break) → IsTrue (is_list_of i s list) → b.1 ≤ cost i (rota ++ duty s day list ∷ [])) (c.in-Some.breaks, n) c.in-Some.is c.in_ok-breaks.ensures.least)
    dear

pub returns-clause-none : goal.returns-clause-none
returns-clause-none c =
    let i = c.args.instance.now in
    let v = c.args.draft.now in
    let s = c.args.shift in
    let day = c.args.day in
    let n = c.in-Some.cost in
    let best = c.in-Some.breaks in
    let is = c.in-Some.is in
    IfOk-weaker c.improve_with.result (λ b. OnFalse b (IsNoGain i (rota_of v.rows) (Add s day best))) (λ b. OnFalse b ((list : List Break) → IsNoGain i (rota_of v.rows) (Add s day list)))
    (λ b h. false_weaker b (IsNoGain i (rota_of v.rows) (Add s day best)) ((list : List Break) → IsNoGain i (rota_of v.rows) (Add s day list))
    (λ x. add_tried i v s day n c.heads.result c.heads_on.result best c.requires.shift c.requires.day c.heads.ensures.heads c.heads_on.ensures c.if-heads-heads_on.false
    (if_some_at c.in_ok-breaks.field-0 (λ b. IsTrue (is_list_of i s b.0)) (best, n) is c.in_ok-breaks.ensures.legal)
    (some_at c.in_ok-breaks.field-0 _ (λ b. b.1 ≡ cost i (rota_of v.rows ++ duty s day b.0 ∷ [])) (best, n) is c.in_ok-breaks.ensures.cost)
    (if_some_at c.in_ok-breaks.field-0 (λ b. (list : List Break) → IsTrue (is_list_of i s list) → b.1 ≤ cost i (rota_of v.rows ++ duty s day list ∷ [])) (best, n) is c.in_ok-breaks.ensures.least)
    x) h)
    c.improve_with.ensures.none
