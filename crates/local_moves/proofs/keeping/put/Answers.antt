use Rattle.local_moves.proofs.Common.{◌≡◌, ◌+◌, ◌*◌, ◌<◌, ◌≤◌, ◌∙◌, set, get_or, ap, arith, rules, heads_on, legal_duty_parts, draft_add, few_duties, rows_room}
use Rattle.local_moves.proofs.DraftFacts.{draft_sorted, heads_place}
use Rattle.local_moves.proofs.keeping.put.Goals as goal

pub add-requires-clause-room : goal.add-requires-clause-room
add-requires-clause-room c = omega (arith, few_duties c.args.instance.now c.args.cover.now.duties c.requires.draft.valid c.requires.draft.legal)

pub bounds-heads-at : goal.bounds-heads-at
bounds-heads-at c =
    let i = c.args.instance.now in
    let d = legal_duty_parts i c.args.duty c.requires.legal in
    let at : c.from.result * c.from-2.result + c.from-3.result ≡ c.args.duty.shift * i.days + c.args.duty.day = search rules in
    (heads_place i c.args.cover.now c.args.heads.now c.args.rows.now.items c.args.duty.shift c.args.duty.day _ c.requires.draft d.shift d.day at).0

pub overflow_add-heads : goal.overflow_add-heads
overflow_add-heads c =
    let i = c.args.instance.now in
    let heads = c.args.heads.now in
    let d = legal_duty_parts i c.args.duty c.requires.legal in
    let at : c.from.result * c.from-2.result + c.from-3.result ≡ c.args.duty.shift * i.days + c.args.duty.day = search rules in
    let p = heads_place i c.args.cover.now heads c.args.rows.now.items c.args.duty.shift c.args.duty.day _ c.requires.draft d.shift d.day at in
    let room : heads_on c.args.cover.now.duties c.args.duty.shift c.args.duty.day < i.heads = c.requires.heads in
    let few : i.heads ≤ 200 = c.requires.draft.valid.heads in
    let l : get_or heads (c.from.result * c.from-2.result + c.from-3.result) 0 + 1 ≤ 200 = omega (arith, p.1) in
    search rules

pub bounds-heads-at-2 : goal.bounds-heads-at-2
bounds-heads-at-2 c =
    let i = c.args.instance.now in
    let d = legal_duty_parts i c.args.duty c.requires.legal in
    let at : c.from.result * c.from-2.result + c.from-3.result ≡ c.args.duty.shift * i.days + c.args.duty.day = search rules in
    (heads_place i c.args.cover.now c.args.heads.now c.args.rows.now.items c.args.duty.shift c.args.duty.day _ c.requires.draft d.shift d.day at).0

pub add_one-requires-clause-order : goal.add_one-requires-clause-order
add_one-requires-clause-order c = draft_sorted c.args.instance.now c.args.cover.now c.args.heads.now c.args.rows.now.items c.requires.draft

pub add_one-requires-clause-few : goal.add_one-requires-clause-few
add_one-requires-clause-few c = rows_room c.args.instance.now c.args.cover.now.duties c.args.rows.now.items c.requires.draft.valid c.requires.draft.legal c.requires.draft.listed

pub returns-clause-draft : goal.returns-clause-draft
returns-clause-draft c =
    let i = c.args.instance.now in
    let heads = c.args.heads.now in
    let d = legal_duty_parts i c.args.duty c.requires.legal in
    let at : c.from.result * c.from-2.result + c.from-3.result ≡ c.args.duty.shift * i.days + c.args.duty.day = search rules in
    draft_add i c.args.cover.now c.add.new.self heads _ c.args.rows.now.items c.add_one.new.rows.items c.args.duty.shift c.args.duty.day c.args.duty.breaks
    c.requires.draft d.shift d.day c.requires.legal c.requires.heads c.add.ensures.instance c.add.ensures.duties (ap (λ j. set heads j (get_or heads j 0 + 1)) at) c.add_one.ensures.rows
