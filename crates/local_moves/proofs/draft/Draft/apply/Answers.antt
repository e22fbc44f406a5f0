use Rattle.local_moves.proofs.Common.{◌≡◌, ◌∙◌, None, sym, ap, subst, MatchResult, OnOk, first_cause, Duty, rota_of, Add, Drop, Rebreak, Answers, AreSameDuties, move_causes, moved}
use Rattle.local_moves.specs.declared.moves.Move.{Move}
use Rattle.local_moves.proofs.draft.Draft.apply.Goals as goal

pub returns-in_ok-duty-in-Add-clause-fault : goal.returns-in_ok-duty-in-Add-clause-fault
returns-in_ok-duty-in-Add-clause-fault c =
    let i = c.args.instance.now in
    let rota = rota_of c.args.self.now.rows in
    subst (λ (m : Move). MatchResult c.add_one.result (λ _. first_cause (move_causes i rota m) ≡ None) (λ e. Answers e (first_cause (move_causes i rota m))))
    (ap (λ (d : Duty). Add d.shift d.day d.breaks) c.in_ok-duty-in-Add.ensures ∙ sym c.in-Add.is) c.add_one.ensures.fault

pub returns-in_ok-duty-in-Add-clause-moved : goal.returns-in_ok-duty-in-Add-clause-moved
returns-in_ok-duty-in-Add-clause-moved c =
    let i = c.args.instance.now in
    let rota = rota_of c.args.self.now.rows in
    subst (λ (m : Move). OnOk c.add_one.result (AreSameDuties (rota_of c.add_one.new.self.rows) (moved i m rota)))
    (ap (λ (d : Duty). Add d.shift d.day d.breaks) c.in_ok-duty-in-Add.ensures ∙ sym c.in-Add.is) c.add_one.ensures.moved

pub returns-in_ok-duty-in-Drop-clause-fault : goal.returns-in_ok-duty-in-Drop-clause-fault
returns-in_ok-duty-in-Drop-clause-fault c =
    let i = c.args.instance.now in
    let rota = rota_of c.args.self.now.rows in
    subst (λ (m : Move). MatchResult c.drop_one.result (λ _. first_cause (move_causes i rota m) ≡ None) (λ e. Answers e (first_cause (move_causes i rota m))))
    (ap (λ (d : Duty). Drop d.shift d.day d.breaks) c.in_ok-duty-in-Drop.ensures ∙ sym c.in-Drop.is) c.drop_one.ensures.fault

pub returns-in_ok-duty-in-Drop-clause-moved : goal.returns-in_ok-duty-in-Drop-clause-moved
returns-in_ok-duty-in-Drop-clause-moved c =
    let i = c.args.instance.now in
    let rota = rota_of c.args.self.now.rows in
    subst (λ (m : Move). OnOk c.drop_one.result (AreSameDuties (rota_of c.drop_one.new.self.rows) (moved i m rota)))
    (ap (λ (d : Duty). Drop d.shift d.day d.breaks) c.in_ok-duty-in-Drop.ensures ∙ sym c.in-Drop.is) c.drop_one.ensures.moved

pub returns-in_ok-duty-in-Rebreak-clause-fault : goal.returns-in_ok-duty-in-Rebreak-clause-fault
returns-in_ok-duty-in-Rebreak-clause-fault c =
    let i = c.args.instance.now in
    let rota = rota_of c.args.self.now.rows in
    subst (λ (m : Move). MatchResult c.rebreak.result (λ _. first_cause (move_causes i rota m) ≡ None) (λ e. Answers e (first_cause (move_causes i rota m))))
    (ap (λ (d : Duty). Rebreak d.shift d.day d.breaks c.in-Rebreak.to) c.in_ok-duty-in-Rebreak.ensures ∙ sym c.in-Rebreak.is) c.rebreak.ensures.fault

pub returns-in_ok-duty-in-Rebreak-clause-moved : goal.returns-in_ok-duty-in-Rebreak-clause-moved
returns-in_ok-duty-in-Rebreak-clause-moved c =
    let i = c.args.instance.now in
    let rota = rota_of c.args.self.now.rows in
    subst (λ (m : Move). OnOk c.rebreak.result (AreSameDuties (rota_of c.rebreak.new.self.rows) (moved i m rota)))
    (ap (λ (d : Duty). Rebreak d.shift d.day d.breaks c.in-Rebreak.to) c.in_ok-duty-in-Rebreak.ensures ∙ sym c.in-Rebreak.is) c.rebreak.ensures.moved

pub returns-in-Reshift-clause-moved : goal.returns-in-Reshift-clause-moved
returns-in-Reshift-clause-moved c =
    let i = c.args.instance.now in
    let rota = rota_of c.args.self.now.rows in
    subst (λ (m : Move). OnOk c.reshift.result (AreSameDuties (rota_of c.reshift.new.self.rows) (moved i m rota))) (sym c.in-Reshift.is) c.reshift.ensures.moved
