use Rattle.descents.proofs.Common.{◌≡◌, ◌<◌, ◌∙◌, List, subst, arith, MatchBool, OnFalse, MatchBool-at_false, OnFalse_at, IfOk-weaker, Break, cost, rota_of, none_at, Drop, Rebreak, IsBestRebreak, IsDutyOptimal, IsNoGain}
use Rattle.descents.proofs.Tries.{duty_none, duty_as_dear, duty_no_better, false_weaker, lower_from, some_at}
use Rattle.descents.proofs.descending.improve_duty.Goals as goal

pub returns-in_default-clause-none : goal.returns-in_default-clause-none
returns-in_default-clause-none c =
    let i = c.args.instance.now in
    let old = c.args.draft.now in
    let mid = c.improve_with.new.draft in
    let d = c.args.duty.now in
    let same : mid ≡ old = MatchBool-at_false (cost i (rota_of mid.rows) < cost i (rota_of old.rows)) (mid ≡ old) c.if-is_gone.false c.in_ok-is_gone.ensures.lower in
    let drop : IsNoGain i (rota_of old.rows) (Drop d.shift d.day d.breaks) = subst (λ (list : List Break). IsNoGain i (rota_of old.rows) (Drop d.shift d.day list)) c.in_ok-copy_of.ensures (OnFalse_at c.if-is_gone.false c.in_ok-is_gone.ensures.none) in
    duty_none i old mid d same drop (none_at c.in_ok-to.field-0 _ c.in_default.is c.in_ok-to.ensures.best)

pub returns-then-cost-clause-none : goal.returns-then-cost-clause-none
returns-then-cost-clause-none c =
    let i = c.args.instance.now in
    let old = c.args.draft.now in
    let mid = c.improve_with.new.draft in
    let low = c.best_rebreak.new.draft in
    let d = c.args.duty.now in
    let same : mid ≡ old = MatchBool-at_false (cost i (rota_of mid.rows) < cost i (rota_of old.rows)) (mid ≡ old) c.if-is_gone.false c.in_ok-is_gone.ensures.lower in
    let drop : IsNoGain i (rota_of old.rows) (Drop d.shift d.day d.breaks) = subst (λ (list : List Break). IsNoGain i (rota_of old.rows) (Drop d.shift d.day list)) c.in_ok-copy_of.ensures (OnFalse_at c.if-is_gone.false c.in_ok-is_gone.ensures.none) in
    let best : IsBestRebreak i (rota_of mid.rows) d c.in-Some.to c.in-Some.cost = some_at c.in_ok-to.field-0 _ (λ b. IsBestRebreak i (rota_of mid.rows) d b.0 b.1) (c.in-Some.to, c.in-Some.cost) c.in-Some.is c.in_ok-to.ensures.best in
    duty_as_dear i old mid low d c.in-Some.to c.in-Some.cost c.cost.result same c.in_ok-to.ensures.kept c.requires.instance drop best c.cost.ensures.cost (omega arith)

pub returns-clause-lower : goal.returns-clause-lower
returns-clause-lower c =
    let i = c.args.instance.now in
    let old = c.args.draft.now in
    let mid = c.improve_with.new.draft in
    let low = c.best_rebreak.new.draft in
    let new = c.improve_with-2.new.draft in
    let same : mid ≡ old = MatchBool-at_false (cost i (rota_of mid.rows) < cost i (rota_of old.rows)) (mid ≡ old) c.if-is_gone.false c.in_ok-is_gone.ensures.lower in
    IfOk-weaker c.improve_with-2.result (λ b. MatchBool b (cost i (rota_of new.rows) < cost i (rota_of low.rows)) (new ≡ low)) (λ b. MatchBool b (cost i (rota_of new.rows) < cost i (rota_of old.rows)) (new ≡ old))
    (λ b h. lower_from i b old low new (c.in_ok-to.ensures.kept ∙ same) h) c.improve_with-2.ensures.lower

pub returns-clause-none : goal.returns-clause-none
returns-clause-none c =
    let i = c.args.instance.now in
    let old = c.args.draft.now in
    let mid = c.improve_with.new.draft in
    let low = c.best_rebreak.new.draft in
    let d = c.args.duty.now in
    let same : mid ≡ old = MatchBool-at_false (cost i (rota_of mid.rows) < cost i (rota_of old.rows)) (mid ≡ old) c.if-is_gone.false c.in_ok-is_gone.ensures.lower in
    let drop : IsNoGain i (rota_of old.rows) (Drop d.shift d.day d.breaks) = subst (λ (list : List Break). IsNoGain i (rota_of old.rows) (Drop d.shift d.day list)) c.in_ok-copy_of.ensures (OnFalse_at c.if-is_gone.false c.in_ok-is_gone.ensures.none) in
    let best : IsBestRebreak i (rota_of mid.rows) d c.in-Some.to c.in-Some.cost = some_at c.in_ok-to.field-0 _ (λ b. IsBestRebreak i (rota_of mid.rows) d b.0 b.1) (c.in-Some.to, c.in-Some.cost) c.in-Some.is c.in_ok-to.ensures.best in
    let copy = c.in_ok-copy_of-2.ensures in
    IfOk-weaker c.improve_with-2.result (λ b. OnFalse b (IsNoGain i (rota_of low.rows) (Rebreak d.shift d.day c.in_ok-copy_of-2.field-0 c.in-Some.to))) (λ b. OnFalse b (IsDutyOptimal i (rota_of old.rows) d))
    (λ b h. false_weaker b (IsNoGain i (rota_of low.rows) (Rebreak d.shift d.day c.in_ok-copy_of-2.field-0 c.in-Some.to)) (IsDutyOptimal i (rota_of old.rows) d)
    (λ x. duty_no_better i old mid low d c.in-Some.to c.in-Some.cost same c.in_ok-to.ensures.kept drop best
    (subst (λ (list : List Break). IsNoGain i (rota_of low.rows) (Rebreak d.shift d.day list c.in-Some.to)) copy x)) h)
    c.improve_with-2.ensures.none
