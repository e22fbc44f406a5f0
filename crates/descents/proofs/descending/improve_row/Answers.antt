use Rattle.descents.proofs.Common.{◌<◌, ◌∙◌, length, arith, OnFalse, IfOk-weaker, rota_of, Rows, IsDutyOptimal, IsOptimalAt}
use Rattle.descents.proofs.Tries.{false_weaker, row_optimal_at, shift_known}
use Rattle.descents.proofs.descending.improve_row.Goals as goal

pub improve_duty-requires-clause-shift : goal.improve_duty-requires-clause-shift
improve_duty-requires-clause-shift c =
    let inside : c.args.k < length c.as_slice-rows.result.now = omega arith in
    shift_known c.args.instance.now c.args.draft.now c.as_slice-rows.result.now c.args.k c.index-rows-k.result c.in_ok-duty.duty c.requires.instance c.rows.ensures.legal
    (c.as_slice-rows.ensures ∙ c.rows.ensures.rows) inside c.index-rows-k.is c.in_ok-duty.ensures

pub returns-clause-none : goal.returns-clause-none
returns-clause-none c =
    let i = c.args.instance.now in
    let rows = c.args.draft.now.rows in
    let inside : c.args.k < length c.as_slice-rows.result.now = omega arith in
    IfOk-weaker c.improve_duty.result (λ b. OnFalse b (IsDutyOptimal i (rota_of rows) c.in_ok-duty.duty)) (λ b. OnFalse b (IsOptimalAt i rows Rows c.args.k))
    (λ b h. false_weaker b (IsDutyOptimal i (rota_of rows) c.in_ok-duty.duty) (IsOptimalAt i rows Rows c.args.k)
    (λ x. row_optimal_at i rows c.as_slice-rows.result.now c.args.k c.index-rows-k.result c.in_ok-duty.duty (c.as_slice-rows.ensures ∙ c.rows.ensures.rows) inside c.index-rows-k.is c.in_ok-duty.ensures x) h)
    c.improve_duty.ensures.none
