use Rattle.local_moves.proofs.Common.{◌≡◌, ◌+◌, ◌≤◌, ◌∷◌, [], List, sym, subst, no_cause, Duty, heads_on, rota_of, Add, IsExchanged, move_causes}
use Rattle.local_moves.proofs.Applied.{now_legal, one_room, added}
use Rattle.local_moves.proofs.draft.Draft.add_one.Goals as goal

pub swap-requires-clause-heads : goal.swap-requires-clause-heads
swap-requires-clause-heads c = λ s day.
    let i = c.args.instance.now in
    let d = c.args.duty in
    let rota = rota_of c.args.self.now.rows in
    let n = no_cause (move_causes i rota (Add d.shift d.day d.breaks)) (sym c.in_default.ensures) in
    let legal = now_legal c.args.self.now i c.requires.instance c.allocator-alloc.ensures.legal in
    subst (λ (ds : List Duty). heads_on rota s day + heads_on ds s day ≤ i.heads + heads_on c.new-gone.result.items s day) (sym c.in_ok-made.ensures)
    (subst (λ (ds : List Duty). heads_on rota s day + heads_on (d ∷ []) s day ≤ i.heads + heads_on ds s day) (sym c.new-gone.ensures.items) (one_room i rota d legal n.1.1.1.0 s day))

pub returns-clause-moved : goal.returns-clause-moved
returns-clause-moved c =
    let d = c.args.duty in
    let rota = rota_of c.args.self.now.rows in
    let new = rota_of c.swap.new.self.rows in
    added rota new d (subst (λ (ds : List Duty). IsExchanged rota ds (d ∷ []) new) c.new-gone.ensures.items
    (subst (λ (ds : List Duty). IsExchanged rota c.new-gone.result.items ds new) c.in_ok-made.ensures c.in_ok-done.ensures.duties))
