use Rattle.local_moves.proofs.Common.{◌≡◌, ◌∙◌, IfOk, sym, subst, Drafting}
use Rattle.local_moves.proofs.Views.{same_drafting}
use Rattle.local_moves.proofs.draft.Draft.copied.Goals as goal

pub returns : goal.returns
returns c =
    let same : c.in_ok-rows.rows ≡ c.args.self.now.rows = c.in_ok-rows.ensures ∙ c.rows.ensures.rows in
    subst (λ (v : Drafting). IfOk c.new.result (λ d. d ≡ v)) (same_drafting (record { instance = c.args.instance.now; rows = c.in_ok-rows.rows }) c.args.self.now (sym c.requires) same) c.new.ensures
