use Rattle.local_moves.proofs.Common.{◌≡◌, ◌+◌, ◌≤◌, ◌∷◌, [], ◌∙◌, List, not, refl, sym, ap, subst, count_by, no_cause, Duty, count_of, heads_on, is_legal_duty, rota_of, duty, Rebreak, IsExchanged, move_causes}
use Rattle.local_moves.proofs.Applied.{now_legal, one_legal, one_there, no_more_heads, same_place_heads, rebroken}
use Rattle.local_moves.proofs.draft.Draft.rebreak.Goals as goal

pub swap-requires-clause-there : goal.swap-requires-clause-there
swap-requires-clause-there c = λ x.
    let d = c.args.duty in
    let rota = rota_of c.args.self.now.rows in
    let n = no_cause (move_causes c.args.instance.now rota (Rebreak d.shift d.day d.breaks c.args.to.now)) (sym c.in_default.ensures) in
    subst (λ (ds : List Duty). count_of ds x ≤ count_of rota x) (sym c.in_ok-gone.ensures) (one_there rota d n.1.1.1.0 x)

pub swap-requires-clause-legal : goal.swap-requires-clause-legal
swap-requires-clause-legal c =
    let i = c.args.instance.now in
    let d = c.args.duty in
    let rota = rota_of c.args.self.now.rows in
    let e = duty d.shift d.day c.args.to.now in
    let n = no_cause (move_causes i rota (Rebreak d.shift d.day d.breaks c.args.to.now)) (sym c.in_default.ensures) in
    let made : c.in_ok-made.made.items ≡ e ∷ [] = c.in_ok-made.ensures ∙ ap (λ (x : Duty). x ∷ []) c.in_ok-other.ensures in
    ap (count_by (λ x. not (is_legal_duty i x))) made ∙ one_legal i e n.1.0 n.1.1.0

pub swap-requires-clause-heads : goal.swap-requires-clause-heads
swap-requires-clause-heads c = λ s day.
    let i = c.args.instance.now in
    let d = c.args.duty in
    let rota = rota_of c.args.self.now.rows in
    let e = duty d.shift d.day c.args.to.now in
    let made : c.in_ok-made.made.items ≡ e ∷ [] = c.in_ok-made.ensures ∙ ap (λ (x : Duty). x ∷ []) c.in_ok-other.ensures in
    let legal = now_legal c.args.self.now i c.requires.instance c.allocator-alloc.ensures.legal in
    subst (λ (ds : List Duty). heads_on rota s day + heads_on ds s day ≤ i.heads + heads_on c.in_ok-gone.gone.items s day) (sym made)
    (subst (λ (ds : List Duty). heads_on rota s day + heads_on (e ∷ []) s day ≤ i.heads + heads_on ds s day) (sym c.in_ok-gone.ensures)
    (no_more_heads i rota (e ∷ []) (d ∷ []) legal (same_place_heads e d refl refl) s day))

pub returns-clause-moved : goal.returns-clause-moved
returns-clause-moved c =
    let d = c.args.duty in
    let rota = rota_of c.args.self.now.rows in
    let new = rota_of c.swap.new.self.rows in
    let e = duty d.shift d.day c.args.to.now in
    let made : c.in_ok-made.made.items ≡ e ∷ [] = c.in_ok-made.ensures ∙ ap (λ (x : Duty). x ∷ []) c.in_ok-other.ensures in
    let n = no_cause (move_causes c.args.instance.now rota (Rebreak d.shift d.day d.breaks c.args.to.now)) (sym c.in_default.ensures) in
    rebroken rota new d e n.1.1.1.0 (subst (λ (ds : List Duty). IsExchanged rota ds (e ∷ []) new) c.in_ok-gone.ensures
    (subst (λ (ds : List Duty). IsExchanged rota c.in_ok-gone.gone.items ds new) made c.in_ok-done.ensures.duties))
