use Rattle.local_moves.proofs.Common.{◌≡◌, ◌<◌, ◌≤◌, ◌∙◌, refl, length, subst, arith, rules, Row}
use Rattle.local_moves.proofs.RowPlaces.{place_within, same_read, taken_some, taken_last}
use Rattle.local_moves.proofs.places.take_one.Goals as goal

pub index-requires : goal.index-requires
index-requires c =
    let l : c.place-at.result < length c.args.rows.now.items = place_within c.args.duty.now c.deref.result.now c.args.rows.now.items c.place-at.result c.deref.ensures.value c.requires.order c.place-at.ensures.before c.place-at.ensures.stops c.requires.there in
    search rules

pub index_mut-requires : goal.index_mut-requires
index_mut-requires c =
    let l : c.place-at.result < length c.args.rows.now.items = place_within c.args.duty.now c.deref.result.now c.args.rows.now.items c.place-at.result c.deref.ensures.value c.requires.order c.place-at.ensures.before c.place-at.ensures.stops c.requires.there in
    search rules

pub overflow_sub-index_mut : goal.overflow_sub-index_mut
overflow_sub-index_mut c =
    let l : c.place-at.result < length c.args.rows.now.items = place_within c.args.duty.now c.deref.result.now c.args.rows.now.items c.place-at.result c.deref.ensures.value c.requires.order c.place-at.ensures.before c.place-at.ensures.stops c.requires.there in
    let same = same_read c.args.rows.now.items c.place-at.result c.index.result.now c.index_mut.result.now l c.index.ensures c.index_mut.ensures.value in
    let many : 1 < c.index_mut.result.now.count = subst (λ (r : Row). 1 < r.count) same c.if-index-gt1.true in
    omega arith

pub remove-gone-requires : goal.remove-gone-requires
remove-gone-requires c =
    let l : c.place-at.result < length c.args.rows.now.items = place_within c.args.duty.now c.deref.result.now c.args.rows.now.items c.place-at.result c.deref.ensures.value c.requires.order c.place-at.ensures.before c.place-at.ensures.stops c.requires.there in
    search rules

pub returns-then-index-gt1-clause-rows : goal.returns-then-index-gt1-clause-rows
returns-then-index-gt1-clause-rows c =
    let l : c.place-at.result < length c.args.rows.now.items = place_within c.args.duty.now c.deref.result.now c.args.rows.now.items c.place-at.result c.deref.ensures.value c.requires.order c.place-at.ensures.before c.place-at.ensures.stops c.requires.there in
    let same = same_read c.args.rows.now.items c.place-at.result c.index.result.now c.index_mut.result.now l c.index.ensures c.index_mut.ensures.value in
    let many : 1 < c.index_mut.result.now.count = subst (λ (r : Row). 1 < r.count) same c.if-index-gt1.true in
    taken_some c.args.duty.now c.deref.result.now c.args.rows.now.items c.place-at.result c.index_mut.result.now _ c.deref.ensures.value c.requires.order c.place-at.ensures.before c.place-at.ensures.stops c.requires.there
    c.index_mut.ensures.value many refl

pub returns-else-index-gt1-clause-rows : goal.returns-else-index-gt1-clause-rows
returns-else-index-gt1-clause-rows c =
    c.remove-gone.ensures.by_index.2
    ∙ taken_last c.args.duty.now c.deref.result.now c.args.rows.now.items c.place-at.result c.index.result.now c.deref.ensures.value c.requires.order c.place-at.ensures.before c.place-at.ensures.stops c.requires.there
    c.index.ensures c.if-index-gt1.false
