use Rattle.local_moves.proofs.Common.{◌≡◌, ◌∙◌, sym, ap, arith, Problem, heads_on, rota_of, legal_rows_parts}
use Rattle.local_moves.proofs.DraftFacts.{view_legal}
use Rattle.local_moves.proofs.ShiftDuties.{duties_before, before_none, before_more_days, before_all}
use Rattle.local_moves.proofs.draft.Draft.duties_of.Goals as goal

pub loop-day-init : goal.loop-day-init
loop-day-init c = record { counted = sym (before_none (rota_of c.args.self.now.rows) c.args.shift); small = omega arith }

pub loop-day-preserved : goal.loop-day-preserved
loop-day-preserved c =
    let rota = rota_of c.args.self.now.rows in
    let here : c.from-duties.result ≡ heads_on rota c.args.shift c.loop-day.day = c.from-duties.ensures ∙ c.heads_on.ensures in
    record {
      counted = omega (arith, here, c.loop-day.invariant.counted, before_more_days rota c.args.shift c.loop-day.day);
      small = omega (arith, c.from-duties.ensures, c.heads_on.type_inv, c.loop-day.invariant.small);
    }

pub returns : goal.returns
returns c =
    let v = c.args.self.now in
    let legal = (legal_rows_parts v.instance v.rows (view_legal v c.self.inside.cover c.self.inside.heads.items c.self.inside.rows c.self.invariant c.self.view_is)).legal in
    let days : c.loop-day.day ≡ v.instance.days = omega (arith, c.loop-day.auto.day-end, c.loop-day-test.false, c.days-day-end.ensures.days, ap (λ (i : Problem). i.days) c.requires.instance) in
    c.loop-day.invariant.counted ∙ ap (duties_before (rota_of v.rows) c.args.shift) days ∙ before_all v.instance (rota_of v.rows) c.args.shift legal
