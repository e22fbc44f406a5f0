use Rattle.local_moves.proofs.Common.{◌≡◌, ◌+◌, ◌≤◌, ◌∷◌, [], List, refl, sym, subst, arith, no_cause, Duty, count_of, heads_on, rota_of, Drop, IsExchanged, move_causes}
use Rattle.local_moves.proofs.Applied.{now_legal, one_there, no_more_heads, dropped}
use Rattle.local_moves.proofs.draft.Draft.drop_one.Goals as goal

pub swap-requires-clause-there : goal.swap-requires-clause-there
swap-requires-clause-there c = λ x.
    let d = c.args.duty in
    let rota = rota_of c.args.self.now.rows in
    let n = no_cause (move_causes c.args.instance.now rota (Drop d.shift d.day d.breaks)) (sym c.in_default.ensures) in
    subst (λ (ds : List Duty). count_of ds x ≤ count_of rota x) (sym c.in_ok-gone.ensures) (one_there rota d n.1.1.0 x)

pub swap-requires-clause-heads : goal.swap-requires-clause-heads
swap-requires-clause-heads c = λ s day.
    let i = c.args.instance.now in
    let d = c.args.duty in
    let rota = rota_of c.args.self.now.rows in
    let legal = now_legal c.args.self.now i c.requires.instance c.allocator-alloc.ensures.legal in
    subst (λ (ds : List Duty). heads_on rota s day + heads_on ds s day ≤ i.heads + heads_on c.in_ok-gone.gone.items s day) (sym c.new-made.ensures.items)
    (subst (λ (ds : List Duty). heads_on rota s day + heads_on [] s day ≤ i.heads + heads_on ds s day) (sym c.in_ok-gone.ensures)
    (no_more_heads i rota [] (d ∷ []) legal (λ s day. let none : heads_on [] s day ≡ 0 = refl in omega arith) s day))

pub returns-clause-moved : goal.returns-clause-moved
returns-clause-moved c =
    let d = c.args.duty in
    let rota = rota_of c.args.self.now.rows in
    let new = rota_of c.swap.new.self.rows in
    let n = no_cause (move_causes c.args.instance.now rota (Drop d.shift d.day d.breaks)) (sym c.in_default.ensures) in
    dropped rota new d n.1.1.0 (subst (λ (ds : List Duty). IsExchanged rota ds [] new) c.in_ok-gone.ensures
    (subst (λ (ds : List Duty). IsExchanged rota c.in_ok-gone.gone.items ds new) c.new-made.ensures.items c.in_ok-done.ensures.duties))
