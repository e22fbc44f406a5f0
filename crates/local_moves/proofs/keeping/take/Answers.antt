use Rattle.local_moves.proofs.Common.{◌≡◌, ◌+◌, ◌-◌, ◌*◌, ◌<◌, ◌≤◌, ◌∙◌, set, get_or, ap, subst, arith, rules, count_of, same_duty, legal_duty_parts}
use Rattle.local_moves.proofs.DraftFacts.{draft_sorted, draft_alike, count_heads, heads_place}
use Rattle.local_moves.proofs.Taking.{draft_less, legal_one}
use Rattle.local_moves.proofs.keeping.take.Goals as goal

pub remove-requires-clause-shift : goal.remove-requires-clause-shift
remove-requires-clause-shift c = (legal_duty_parts c.args.instance.now c.args.duty.now (legal_one c.args.instance.now c.args.cover.now.duties c.args.duty.now c.requires.draft.legal c.requires.there)).shift

pub remove-requires-clause-day : goal.remove-requires-clause-day
remove-requires-clause-day c = (legal_duty_parts c.args.instance.now c.args.duty.now (legal_one c.args.instance.now c.args.cover.now.duties c.args.duty.now c.requires.draft.legal c.requires.there)).day

pub overflow_add-at : goal.overflow_add-at
overflow_add-at c =
    let i = c.args.instance.now in
    let d = legal_duty_parts i c.args.duty.now (legal_one i c.args.cover.now.duties c.args.duty.now c.requires.draft.legal c.requires.there) in
    let at : c.from.result * c.from-2.result + c.from-3.result ≡ c.args.duty.now.shift * i.days + c.args.duty.now.day = search rules in
    let p = heads_place i c.args.cover.now c.args.heads.now c.args.rows.now.items c.args.duty.now.shift c.args.duty.now.day _ c.requires.draft d.shift d.day at in
    let l : c.from.result * c.from-2.result + c.from-3.result < 7168 = p.2 in
    search rules

pub offset_bounds-heads-at : goal.offset_bounds-heads-at
offset_bounds-heads-at c =
    let i = c.args.instance.now in
    let d = legal_duty_parts i c.args.duty.now (legal_one i c.args.cover.now.duties c.args.duty.now c.requires.draft.legal c.requires.there) in
    let at : c.from.result * c.from-2.result + c.from-3.result ≡ c.args.duty.now.shift * i.days + c.args.duty.now.day = search rules in
    let p = heads_place i c.args.cover.now c.args.heads.now c.args.rows.now.items c.args.duty.now.shift c.args.duty.now.day _ c.requires.draft d.shift d.day at in
    let l : c.from.result * c.from-2.result + c.from-3.result < 7168 = p.2 in
    search rules

pub bounds-heads-at : goal.bounds-heads-at
bounds-heads-at c =
    let i = c.args.instance.now in
    let d = legal_duty_parts i c.args.duty.now (legal_one i c.args.cover.now.duties c.args.duty.now c.requires.draft.legal c.requires.there) in
    let at : c.from.result * c.from-2.result + c.from-3.result ≡ c.args.duty.now.shift * i.days + c.args.duty.now.day = search rules in
    (heads_place i c.args.cover.now c.args.heads.now c.args.rows.now.items c.args.duty.now.shift c.args.duty.now.day _ c.requires.draft d.shift d.day at).0

pub overflow_sub-heads : goal.overflow_sub-heads
overflow_sub-heads c =
    let i = c.args.instance.now in
    let d = legal_duty_parts i c.args.duty.now (legal_one i c.args.cover.now.duties c.args.duty.now c.requires.draft.legal c.requires.there) in
    let at : c.from.result * c.from-2.result + c.from-3.result ≡ c.args.duty.now.shift * i.days + c.args.duty.now.day = search rules in
    let p = heads_place i c.args.cover.now c.args.heads.now c.args.rows.now.items c.args.duty.now.shift c.args.duty.now.day _ c.requires.draft d.shift d.day at in
    let some : 0 < count_of c.args.cover.now.duties c.args.duty.now = c.requires.there in
    omega (arith, p.1, count_heads c.args.cover.now.duties c.args.duty.now)

pub bounds-heads-at-2 : goal.bounds-heads-at-2
bounds-heads-at-2 c =
    let i = c.args.instance.now in
    let d = legal_duty_parts i c.args.duty.now (legal_one i c.args.cover.now.duties c.args.duty.now c.requires.draft.legal c.requires.there) in
    let at : c.from.result * c.from-2.result + c.from-3.result ≡ c.args.duty.now.shift * i.days + c.args.duty.now.day = search rules in
    (heads_place i c.args.cover.now c.args.heads.now c.args.rows.now.items c.args.duty.now.shift c.args.duty.now.day _ c.requires.draft d.shift d.day at).0

pub take_one-requires-clause-order : goal.take_one-requires-clause-order
take_one-requires-clause-order c = draft_sorted c.args.instance.now c.args.cover.now c.args.heads.now c.args.rows.now.items c.requires.draft

pub take_one-requires-clause-there : goal.take_one-requires-clause-there
take_one-requires-clause-there c = subst (λ n. 0 < n) (draft_alike c.args.instance.now c.args.cover.now c.args.heads.now c.args.rows.now.items c.requires.draft (same_duty c.args.duty.now)) c.requires.there

pub returns-clause-draft : goal.returns-clause-draft
returns-clause-draft c =
    let i = c.args.instance.now in
    let heads = c.args.heads.now in
    let d = legal_duty_parts i c.args.duty.now (legal_one i c.args.cover.now.duties c.args.duty.now c.requires.draft.legal c.requires.there) in
    let at : c.from.result * c.from-2.result + c.from-3.result ≡ c.args.duty.now.shift * i.days + c.args.duty.now.day = search rules in
    draft_less i c.args.cover.now c.remove.new.self heads _ c.args.rows.now.items c.take_one.new.rows.items c.args.duty.now c.requires.draft c.requires.there d.shift d.day
    c.remove.ensures.instance c.remove.ensures.duties (ap (λ j. set heads j (get_or heads j 0 - 1)) at) c.take_one.ensures.rows
