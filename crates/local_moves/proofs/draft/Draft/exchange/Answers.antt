use Rattle.local_moves.proofs.Common.{◌≡◌, ◌∙◌, List, true, sym, subst, Row, Problem, are_legal_rows, rota_of, IsExchanged}
use Rattle.local_moves.proofs.DraftFacts.{draft_legal}
use Rattle.local_moves.proofs.Exchanges.{exchange_there, exchange_heads, exchange_all}
use Rattle.local_moves.proofs.draft.Draft.exchange.Goals as goal

pub returns-then-is_err-clause-legal : goal.returns-then-is_err-clause-legal
returns-then-is_err-clause-legal c =
    let same : c.new-then-is_err.result ≡ c.self.inside.rows = c.new-then-is_err.ensures ∙ c.reserve.ensures.items ∙ c.into_vec-rows.ensures ∙ c.replace.ensures.value in
    subst (λ (rows : List Row). are_legal_rows c.self.inside.cover.instance rows ≡ true) (sym same) (draft_legal c.self.inside.cover.instance c.self.inside.cover c.self.inside.heads.items c.self.inside.rows c.self.invariant)

pub take_all-requires-clause-there : goal.take_all-requires-clause-there
take_all-requires-clause-there c = exchange_there c.args.self.now c.self.inside.cover c.self.inside.heads.items c.self.inside.rows c.args.gone.now c.self.invariant c.self.view_is c.requires.there

pub put_all-requires-clause-heads : goal.put_all-requires-clause-heads
put_all-requires-clause-heads c = exchange_heads c.args.instance.now c.args.self.now c.self.inside.cover c.self.inside.heads.items c.self.inside.rows c.args.gone.now c.args.made.items c.take_all.new.cover.duties c.self.invariant c.self.view_is c.requires.heads c.take_all.ensures.duties

pub returns-clause-legal : goal.returns-clause-legal
returns-clause-legal c =
    let d = c.put_all.ensures.draft in
    let legal : are_legal_rows c.args.instance.now c.put_all.new.rows.items ≡ true = draft_legal c.args.instance.now c.put_all.new.cover _ c.put_all.new.rows.items d in
    subst (λ (rows : List Row). are_legal_rows c.put_all.new.cover.instance rows ≡ true) (sym c.new-2.ensures)
    (subst (λ (i : Problem). are_legal_rows i c.put_all.new.rows.items ≡ true) (sym d.instance) legal)

pub returns-clause-duties : goal.returns-clause-duties
returns-clause-duties c =
    let h = exchange_all c.args.instance.now c.args.self.now c.self.inside.cover c.put_all.new.cover c.self.inside.heads.items _ c.self.inside.rows c.put_all.new.rows.items c.args.gone.now c.args.made.items c.take_all.new.cover.duties c.self.invariant c.self.view_is c.take_all.ensures.duties c.put_all.ensures.duties c.put_all.ensures.draft in
    subst (λ (rows : List Row). IsExchanged (rota_of c.args.self.now.rows) c.args.gone.now c.args.made.items (rota_of rows)) (sym c.new-2.ensures) h
