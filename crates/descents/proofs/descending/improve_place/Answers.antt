use Rattle.descents.proofs.Common.{◌∙◌, ◌/◌, ◌%◌, List, length, OnFalse, IfOk-weaker, Break, rota_of, Add, Reshift, Rows, IsNoGain, IsOptimalAt}
use Rattle.descents.proofs.Tries.{false_weaker, optimal_at_rows, optimal_at_shifts, optimal_at_days}
use Rattle.descents.proofs.descending.improve_place.Goals as goal

pub returns-in-Rows-clause-none : goal.returns-in-Rows-clause-none
returns-in-Rows-clause-none c =
    let i = c.args.instance.now in
    let rows = c.args.draft.now.rows in
    IfOk-weaker c.improve_row.result (λ b. OnFalse b (IsOptimalAt i rows Rows c.args.place)) (λ b. OnFalse b (IsOptimalAt i rows c.args.part c.args.place))
    (λ b h. false_weaker b (IsOptimalAt i rows Rows c.args.place) (IsOptimalAt i rows c.args.part c.args.place) (optimal_at_rows i rows c.args.part c.args.place c.in-Rows.is) h)
    c.improve_row.ensures.none

pub returns-in-Shifts-clause-none : goal.returns-in-Shifts-clause-none
returns-in-Shifts-clause-none c =
    let i = c.args.instance.now in
    let rows = c.args.draft.now.rows in
    let k = c.args.place in
    let n = length c.shifts-shifts.result.now in
    IfOk-weaker c.improve_reshift.result (λ b. OnFalse b (IsNoGain i (rota_of rows) (Reshift (k / n) (k % n)))) (λ b. OnFalse b (IsOptimalAt i rows c.args.part k))
    (λ b h. false_weaker b (IsNoGain i (rota_of rows) (Reshift (k / n) (k % n))) (IsOptimalAt i rows c.args.part k) (optimal_at_shifts i rows c.args.part k n c.in-Shifts.is c.shifts-shifts.ensures.count) h)
    c.improve_reshift.ensures.none

pub returns-in-Days-clause-none : goal.returns-in-Days-clause-none
returns-in-Days-clause-none c =
    let i = c.args.instance.now in
    let rows = c.args.draft.now.rows in
    let k = c.args.place in
    let n = c.from-days.result in
    IfOk-weaker c.improve_day.result (λ b. OnFalse b ((list : List Break) → IsNoGain i (rota_of rows) (Add (k / n) (k % n) list))) (λ b. OnFalse b (IsOptimalAt i rows c.args.part k))
    (λ b h. false_weaker b ((list : List Break) → IsNoGain i (rota_of rows) (Add (k / n) (k % n) list)) (IsOptimalAt i rows c.args.part k)
    (optimal_at_days i rows c.args.part k n c.in-Days.is (c.from-days.ensures ∙ c.days.ensures.days)) h)
    c.improve_day.ensures.none
