use Rattle.local_moves.proofs.Common.{◌≡◌, ◌∙◌, ◌+◌, ◌≤◌, List, true, sym, subst, Duty, Problem, count_of, heads_on, rota_of, are_legal_rows, legal_rows_parts, Change, IsDone, IsExchanged}
use Rattle.local_moves.proofs.Undone.{back_there, back_legal, back_heads, back_rows}
use Rattle.local_moves.proofs.draft.Draft.undo.Goals as goal

pub exchange-requires-clause-there : goal.exchange-requires-clause-there
exchange-requires-clause-there c =
    let back = c.requires.back in
    let now = rota_of c.args.self.now.rows in
    let done = subst (λ (cs : List Change). IsDone (rota_of back.0) now cs) (sym c.done.view_is) back.2 in
    λ d. subst (λ (ds : List Duty). count_of ds d ≤ count_of now d) (sym c.deref.ensures.value) (back_there (rota_of back.0) now c.done.inside.gone.items c.done.inside.made.items c.done.inside.changes.items c.done.invariant done d)

pub exchange-requires-clause-legal : goal.exchange-requires-clause-legal
exchange-requires-clause-legal c =
    let back = c.requires.back in
    let now = rota_of c.args.self.now.rows in
    let done = subst (λ (cs : List Change). IsDone (rota_of back.0) now cs) (sym c.done.view_is) back.2 in
    back_legal c.args.instance.now (rota_of back.0) now c.done.inside.gone.items c.done.inside.made.items c.done.inside.changes.items c.done.invariant done (legal_rows_parts c.args.instance.now back.0 back.1).legal

pub exchange-requires-clause-heads : goal.exchange-requires-clause-heads
exchange-requires-clause-heads c =
    let back = c.requires.back in
    let now = rota_of c.args.self.now.rows in
    let done = subst (λ (cs : List Change). IsDone (rota_of back.0) now cs) (sym c.done.view_is) back.2 in
    λ s day. subst (λ (ds : List Duty). heads_on now s day + heads_on c.done.inside.gone.items s day ≤ c.args.instance.now.heads + heads_on ds s day) (sym c.deref.ensures.value)
    (back_heads c.args.instance.now (rota_of back.0) now c.done.inside.gone.items c.done.inside.made.items c.done.inside.changes.items c.done.invariant done (legal_rows_parts c.args.instance.now back.0 back.1).legal s day)

pub returns-in-Ok-clause-undone : goal.returns-in-Ok-clause-undone
returns-in-Ok-clause-undone c = λ before legal done.
    let now = c.args.self.now.rows in
    let own = subst (λ (cs : List Change). IsDone (rota_of before) (rota_of now) cs) (sym c.done.view_is) done in
    let new = c.exchange.new.self in
    let same : new.instance ≡ c.args.instance.now = c.exchange.ensures.instance ∙ c.requires.instance in
    back_rows c.args.instance.now before now new.rows c.done.inside.gone.items c.done.inside.made.items c.done.inside.changes.items c.done.invariant own legal
    (subst (λ (i : Problem). are_legal_rows i new.rows ≡ true) same c.exchange.ensures.legal)
    (subst (λ (ds : List Duty). IsExchanged (rota_of now) ds c.done.inside.gone.items (rota_of new.rows)) c.deref.ensures.value c.in-Ok.ensures.duties)
