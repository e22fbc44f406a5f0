use Rattle.greedy.proofs.Common.{◌≡◌, ◌+◌, ◌*◌, ◌<◌, ◌≤◌, ◌∙◌, ◌++◌, ◌∷◌, [], length, set, get_or, ap, arith, rules, get_or_read, mul-add-lt, on_ok_weaker, shift_list, heads_on, legal_duty_parts, heads_at, with_one_more, duty}
use Rattle.greedy.proofs.Growing.{draft_add, few_duties, rows_room}
use Rattle.greedy.proofs.draft.GreedyDraft.add.Goals as goal

pub add-requires-clause-room : goal.add-requires-clause-room
add-requires-clause-room c = omega (arith, few_duties c.args.instance.now c.args.self.now.cover.duties c.requires.draft.valid c.requires.draft.legal)

pub index_mut-requires : goal.index_mut-requires
index_mut-requires c =
    let i = c.args.instance.now in
    let d = legal_duty_parts i (duty c.args.shift c.args.day c.args.list.now) c.requires.legal in
    let small : c.args.shift * i.days + c.args.day < i.days * length (shift_list i) = mul-add-lt c.args.shift i.days c.args.day (length (shift_list i)) d.shift d.day in
    let all : length c.args.self.now.heads.items ≡ length (shift_list i) * i.days = c.requires.draft.all_shifts in
    let at : c.from.result * c.from-2.result + c.from-3.result ≡ c.args.shift * i.days + c.args.day = search rules in
    let within : c.from.result * c.from-2.result + c.from-3.result < length c.args.self.now.heads.items = omega arith in
    search rules

pub overflow_add-index_mut : goal.overflow_add-index_mut
overflow_add-index_mut c =
    let i = c.args.instance.now in
    let heads = c.args.self.now.heads.items in
    let d = legal_duty_parts i (duty c.args.shift c.args.day c.args.list.now) c.requires.legal in
    let small : c.args.shift * i.days + c.args.day < i.days * length (shift_list i) = mul-add-lt c.args.shift i.days c.args.day (length (shift_list i)) d.shift d.day in
    let all : length heads ≡ length (shift_list i) * i.days = c.requires.draft.all_shifts in
    let at : c.from.result * c.from-2.result + c.from-3.result ≡ c.args.shift * i.days + c.args.day = search rules in
    let value : c.index_mut.result.now ≡ get_or heads (c.from.result * c.from-2.result + c.from-3.result) 0 = get_or_read heads _ c.index_mut.result.now (omega arith) c.index_mut.ensures.value 0 in
    let here : c.index_mut.result.now ≡ heads_on c.args.self.now.cover.duties c.args.shift c.args.day = value ∙ ap (λ j. get_or heads j 0) at ∙ c.requires.draft.headed c.args.shift c.args.day d.shift d.day in
    let room : heads_on c.args.self.now.cover.duties c.args.shift c.args.day < i.heads = c.requires.room in
    let few : i.heads ≤ 200 = c.requires.draft.valid.heads in
    omega arith

pub add_one-requires-clause-room : goal.add_one-requires-clause-room
add_one-requires-clause-room c = rows_room c.args.instance.now c.args.self.now.cover.duties c.args.self.now.rows.items c.requires.draft.valid c.requires.draft.legal c.requires.draft.listed

pub returns-clause-draft : goal.returns-clause-draft
returns-clause-draft c =
    let i = c.args.instance.now in
    let heads = c.args.self.now.heads.items in
    let own = duty c.args.shift c.args.day c.args.list.now in
    let d = legal_duty_parts i own c.requires.legal in
    let small : c.args.shift * i.days + c.args.day < i.days * length (shift_list i) = mul-add-lt c.args.shift i.days c.args.day (length (shift_list i)) d.shift d.day in
    let all : length heads ≡ length (shift_list i) * i.days = c.requires.draft.all_shifts in
    let at : c.from.result * c.from-2.result + c.from-3.result ≡ c.args.shift * i.days + c.args.day = search rules in
    let value : c.index_mut.result.now ≡ get_or heads (c.from.result * c.from-2.result + c.from-3.result) 0 = get_or_read heads _ c.index_mut.result.now (omega arith) c.index_mut.ensures.value 0 in
    let same : c.index_mut.result.now ≡ heads_at i heads c.args.shift c.args.day = value ∙ ap (λ j. get_or heads j 0) at in
    let raised : set heads (c.from.result * c.from-2.result + c.from-3.result) (c.index_mut.result.now + 1) ≡ set heads (c.args.shift * i.days + c.args.day) (heads_at i heads c.args.shift c.args.day + 1) =
    ap (λ j. set heads j (c.index_mut.result.now + 1)) at ∙ ap (λ n. set heads (c.args.shift * i.days + c.args.day) (n + 1)) same in
    let duties : c.add.new.self.duties ≡ c.args.self.now.cover.duties ++ own ∷ [] = search rules in
    on_ok_weaker c.add_one.result (λ (e : c.add_one.new.rows.items ≡ with_one_more own c.args.self.now.rows.items).
    draft_add i c.args.self.now.cover c.add.new.self heads _ c.args.self.now.rows.items c.add_one.new.rows.items c.args.shift c.args.day c.args.list.now
    c.requires.draft d.shift d.day c.requires.legal c.requires.room c.add.ensures.instance duties raised e) (search rules)
