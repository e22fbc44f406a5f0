use Rattle.descents.proofs.Common.{◌≡◌, None, List, subst, Break, first_cause, rota_of, without, duty, Drop, Answers, AreSameDuties, move_causes}
use Rattle.descents.proofs.Descents.{not_none, no_rebreak}
use Rattle.descents.proofs.Tries.{rebreak_found}
use Rattle.descents.proofs.descending.best_rebreak.Goals as goal

pub returns-in-Err-clause-best : goal.returns-in-Err-clause-best
returns-in-Err-clause-best c =
    let i = c.args.instance.now in
    let rota = rota_of c.args.draft.now.rows in
    let d = c.args.duty.now in
    no_rebreak i rota d (not_none c.in-Err.fault (first_cause (move_causes i rota (Drop d.shift d.day d.breaks)))
    (subst (λ (list : List Break). Answers c.in-Err.fault (first_cause (move_causes i rota (Drop d.shift d.day list)))) c.in_ok-copy_of.ensures c.in-Err.ensures.fault) c.in_ok-refused-in-Err.ensures)

pub returns-in-Ok-undo-clause-best : goal.returns-in-Ok-undo-clause-best
returns-in-Ok-undo-clause-best c =
    let i = c.args.instance.now in
    let rota = rota_of c.args.draft.now.rows in
    let less = rota_of c.apply.new.self.rows in
    let d = c.args.duty.now in
    let there : first_cause (move_causes i rota (Drop d.shift d.day d.breaks)) ≡ None = subst (λ (list : List Break). first_cause (move_causes i rota (Drop d.shift d.day list)) ≡ None) c.in_ok-copy_of.ensures c.in-Ok.ensures.fault in
    let same : AreSameDuties less (without (duty d.shift d.day d.breaks) rota) = subst (λ (list : List Break). AreSameDuties less (without (duty d.shift d.day list) rota)) c.in_ok-copy_of.ensures c.in-Ok.ensures.moved in
    rebreak_found i rota less d c.in_ok-best.best there same c.in_ok-best.ensures.cost c.in_ok-best.ensures.legal c.in_ok-best.ensures.least
