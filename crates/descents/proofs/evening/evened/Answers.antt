use Rattle.descents.proofs.Common.{◌≡◌, ◌≤◌, ℕ, cost, heads_on, rota_of}
use Rattle.descents.proofs.Tries.{of_rows}
use Rattle.descents.proofs.evening.evened.Goals as goal

pub returns-clause-cheap : goal.returns-clause-cheap
returns-clause-cheap c =
    let i = c.args.instance.now in
    of_rows (λ new old. cost i (rota_of new) ≤ cost i (rota_of old)) i c.args.rows c.into_rows.result c.in_ok-draft.draft c.even_out.new.draft c.in_ok-draft.ensures c.into_rows.ensures.rows c.in_ok-_moves.ensures.cheap

pub returns-clause-heads : goal.returns-clause-heads
returns-clause-heads c =
    of_rows (λ new old. (s day : ℕ) → heads_on (rota_of new) s day ≡ heads_on (rota_of old) s day) c.args.instance.now c.args.rows c.into_rows.result c.in_ok-draft.draft c.even_out.new.draft c.in_ok-draft.ensures c.into_rows.ensures.rows c.in_ok-_moves.ensures.heads
