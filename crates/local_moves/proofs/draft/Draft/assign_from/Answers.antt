use Rattle.local_moves.proofs.Common.{◌≡◌, ◌∙◌, ◌+◌, ◌≤◌, List, not, sym, ap, subst, arith, count_by, Duty, Row, Problem, are_legal_rows, heads_on, is_legal_duty, rota_of, heads_within, legal_rows_parts, IsExchanged}
use Rattle.local_moves.proofs.Views.{all_legal, assigned_rows, legal_for, same_drafting}
use Rattle.local_moves.proofs.draft.Draft.assign_from.Goals as goal

pub exchange-requires-clause-legal : goal.exchange-requires-clause-legal
exchange-requires-clause-legal c =
    let i = c.args.instance.now in
    let other = c.args.other.now in
    let made : c.in_ok-made.made.items ≡ rota_of other.rows = c.in_ok-made.ensures ∙ ap (λ (rs : List Row). rota_of rs) (c.as_slice-2.ensures ∙ c.rows-2.ensures.rows) in
    let legal = legal_for i other c.requires.other c.rows-2.ensures.legal in
    subst (λ (ds : List Duty). count_by (λ d. not (is_legal_duty i d)) ds ≡ 0) (sym made) (all_legal i (rota_of other.rows) (legal_rows_parts i other.rows legal).legal)

pub exchange-requires-clause-heads : goal.exchange-requires-clause-heads
exchange-requires-clause-heads c = λ s day.
    let i = c.args.instance.now in
    let own = c.args.self.now in
    let other = c.args.other.now in
    let gone : c.deref.result.now ≡ rota_of own.rows = c.deref.ensures.value ∙ c.in_ok-gone.ensures ∙ ap (λ (rs : List Row). rota_of rs) (c.as_slice.ensures ∙ c.rows.ensures.rows) in
    let made : c.in_ok-made.made.items ≡ rota_of other.rows = c.in_ok-made.ensures ∙ ap (λ (rs : List Row). rota_of rs) (c.as_slice-2.ensures ∙ c.rows-2.ensures.rows) in
    let legal = legal_for i other c.requires.other c.rows-2.ensures.legal in
    let few : heads_on (rota_of other.rows) s day ≤ i.heads = heads_within i (rota_of other.rows) (legal_rows_parts i other.rows legal).legal s day in
    let a : heads_on c.deref.result.now s day ≡ heads_on (rota_of own.rows) s day = ap (λ (ds : List Duty). heads_on ds s day) gone in
    let b : heads_on c.in_ok-made.made.items s day ≡ heads_on (rota_of other.rows) s day = ap (λ (ds : List Duty). heads_on ds s day) made in
    omega arith

pub returns-in-Ok-clause-assigned : goal.returns-in-Ok-clause-assigned
returns-in-Ok-clause-assigned c =
    let i = c.args.instance.now in
    let own = c.args.self.now in
    let other = c.args.other.now in
    let new = c.exchange.new.self in
    let gone : c.deref.result.now ≡ rota_of own.rows = c.deref.ensures.value ∙ c.in_ok-gone.ensures ∙ ap (λ (rs : List Row). rota_of rs) (c.as_slice.ensures ∙ c.rows.ensures.rows) in
    let made : c.in_ok-made.made.items ≡ rota_of other.rows = c.in_ok-made.ensures ∙ ap (λ (rs : List Row). rota_of rs) (c.as_slice-2.ensures ∙ c.rows-2.ensures.rows) in
    let same : new.instance ≡ i = c.exchange.ensures.instance ∙ c.requires.instance in
    let duties : IsExchanged (rota_of own.rows) (rota_of own.rows) (rota_of other.rows) (rota_of new.rows) =
    subst (λ (ds : List Duty). IsExchanged (rota_of own.rows) (rota_of own.rows) ds (rota_of new.rows)) made
    (subst (λ (ds : List Duty). IsExchanged (rota_of own.rows) ds c.in_ok-made.made.items (rota_of new.rows)) gone c.in-Ok.ensures.duties) in
    same_drafting new other (same ∙ sym c.requires.other)
    (assigned_rows i own.rows other.rows new.rows (legal_for i other c.requires.other c.rows-2.ensures.legal) (legal_for i new same c.exchange.ensures.legal) duties)
