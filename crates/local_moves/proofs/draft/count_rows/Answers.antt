use Rattle.local_moves.proofs.Common.{◌≡◌, ◌+◌, ◌*◌, ◌<◌, ◌≤◌, ◌++◌, ◌∙◌, length, get_or, replicate, take, refl, sym, ap, subst, arith, rules, mul-add-lt, Duty, shift_list, rota_of, heads_on}
use Rattle.local_moves.proofs.CountedRows.{next_row, heads_more}
use Rattle.local_moves.proofs.draft.count_rows.Goals as goal

pub add_often-requires-clause-shift : goal.add_often-requires-clause-shift
add_often-requires-clause-shift c =
    let rows = c.args.rows.now in
    let next = next_row c.args.instance.now rows rows c.loop-row.row-index c.row-item.result refl c.days.ensures.valid c.requires.legal c.loop-row-test.true c.row-item.is in
    subst (λ (d : Duty). d.shift < length (shift_list c.args.instance.now)) (sym c.in_ok-duty.ensures) next.shift

pub add_often-requires-clause-day : goal.add_often-requires-clause-day
add_often-requires-clause-day c =
    let rows = c.args.rows.now in
    let next = next_row c.args.instance.now rows rows c.loop-row.row-index c.row-item.result refl c.days.ensures.valid c.requires.legal c.loop-row-test.true c.row-item.is in
    subst (λ (d : Duty). d.day < c.args.instance.now.days) (sym c.in_ok-duty.ensures) next.day

pub add_often-requires-clause-room : goal.add_often-requires-clause-room
add_often-requires-clause-room c =
    let rows = c.args.rows.now in
    let next = next_row c.args.instance.now rows rows c.loop-row.row-index c.row-item.result refl c.days.ensures.valid c.requires.legal c.loop-row-test.true c.row-item.is in
    omega (arith, next.few, ap (λ ds. length ds) c.loop-row.invariant.duties)

pub bounds-heads-from : goal.bounds-heads-from
bounds-heads-from c =
    let i = c.args.instance.now in
    let rows = c.args.rows.now in
    let r = c.row-item.result in
    let next = next_row i rows rows c.loop-row.row-index r refl c.days.ensures.valid c.requires.legal c.loop-row-test.true c.row-item.is in
    let at : c.from.result * c.from-days.result + c.from-in-loop-row.result ≡ r.shift * i.days + r.day = search rules in
    let small : r.shift * i.days + r.day < i.days * length (shift_list i) = mul-add-lt r.shift i.days r.day (length (shift_list i)) next.shift next.day in
    let all : length c.args.heads.now ≡ length (shift_list i) * i.days = c.requires.heads in
    omega (arith, c.loop-row.auto.heads)

pub overflow_add-heads-in-loop-row : goal.overflow_add-heads-in-loop-row
overflow_add-heads-in-loop-row c =
    let i = c.args.instance.now in
    let rows = c.args.rows.now in
    let r = c.row-item.result in
    let next = next_row i rows rows c.loop-row.row-index r refl c.days.ensures.valid c.requires.legal c.loop-row-test.true c.row-item.is in
    let at : c.from.result * c.from-days.result + c.from-in-loop-row.result ≡ r.shift * i.days + r.day = search rules in
    let here : get_or c.loop-row.heads (c.from.result * c.from-days.result + c.from-in-loop-row.result) 0 ≡ heads_on (rota_of (take c.loop-row.row-index rows)) r.shift r.day =
    ap (λ j. get_or c.loop-row.heads j 0) at ∙ c.loop-row.invariant.headed r.shift r.day next.shift next.day in
    let few : get_or c.loop-row.heads (c.from.result * c.from-days.result + c.from-in-loop-row.result) 0 + r.count ≤ 200 = omega (arith, next.heads) in
    search rules

pub bounds-heads-from-in-loop-row : goal.bounds-heads-from-in-loop-row
bounds-heads-from-in-loop-row c =
    let i = c.args.instance.now in
    let rows = c.args.rows.now in
    let r = c.row-item.result in
    let next = next_row i rows rows c.loop-row.row-index r refl c.days.ensures.valid c.requires.legal c.loop-row-test.true c.row-item.is in
    let at : c.from.result * c.from-days.result + c.from-in-loop-row.result ≡ r.shift * i.days + r.day = search rules in
    let small : r.shift * i.days + r.day < i.days * length (shift_list i) = mul-add-lt r.shift i.days r.day (length (shift_list i)) next.shift next.day in
    let all : length c.args.heads.now ≡ length (shift_list i) * i.days = c.requires.heads in
    omega (arith, c.loop-row.auto.heads)

pub loop-row-preserved : goal.loop-row-preserved
loop-row-preserved c =
    let i = c.args.instance.now in
    let rows = c.args.rows.now in
    let r = c.row-item.result in
    let next = next_row i rows rows c.loop-row.row-index r refl c.days.ensures.valid c.requires.legal c.loop-row-test.true c.row-item.is in
    let at : c.from.result * c.from-days.result + c.from-in-loop-row.result ≡ r.shift * i.days + r.day = search rules in
    let size : length c.loop-row.heads ≡ length (shift_list i) * i.days = c.loop-row.auto.heads ∙ c.requires.heads in
    record {
      instance = c.add_often.ensures.instance ∙ c.loop-row.invariant.instance;
      duties = c.add_often.ensures.duties ∙ ap (λ ds. ds ++ replicate r.count c.in_ok-duty.duty) c.loop-row.invariant.duties ∙ ap (λ d. rota_of (take c.loop-row.row-index rows) ++ replicate r.count d) c.in_ok-duty.ensures ∙ sym next.more;
      headed = λ s day hs hd. heads_more i rows c.loop-row.row-index r c.loop-row.heads _ _ s day next size c.loop-row.invariant.headed at refl hs hd;
    }
