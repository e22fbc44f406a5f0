use Rattle.descents.proofs.Common.{rota_of}
use Rattle.descents.proofs.Evener.{evener_tried}
use Rattle.descents.proofs.Tries.{undone_same}
use Rattle.descents.proofs.evening.even_with.Goals as goal

pub returns-then-unevenness-uneven-clause-evener : goal.returns-then-unevenness-uneven-clause-evener
returns-then-unevenness-uneven-clause-evener c =
    let i = c.args.instance.now in
    let rota = rota_of c.args.draft.now.rows in
    let d = c.args.duty.now in
    evener_tried i c.args.draft.now c.apply.new.self d.shift d.day c.in_ok-copy_of.field-0 c.args.to c.cost-cost.result c.cost.result c.unevenness-uneven.result c.unevenness.result
    c.requires.instance c.apply.ensures.instance c.in-Ok.ensures.fault c.in-Ok.ensures.moved c.cost-cost.ensures.cost c.cost.ensures.cost c.if-cost.true c.unevenness-uneven.ensures c.unevenness.ensures c.if-unevenness-uneven.true

pub returns-in-Ok-undo-clause-evener : goal.returns-in-Ok-undo-clause-evener
returns-in-Ok-undo-clause-evener c =
    undone_same c.args.instance.now c.args.draft.now c.apply.new.self c.undo.new.self _ c.requires.instance c.apply.ensures.instance c.undo.ensures.instance c.cost-cost.ensures.legal c.in-Ok.ensures.done c.in-Ok-undo.ensures.undone
