-- What a draft's plan costs is small.
use Rattle.local_moves.proofs.Common.{◌≡◌, ℕ, ◌<◌, List, subst, Row, cost, rota_of, Covering, legal_rows_parts, costs_below, IsDraft, Drafting}
use Rattle.local_moves.proofs.DraftFacts.{draft_legal}

pub view_below : (v : Drafting) (cover : Covering) (heads : List ℕ) (rows : List Row) → IsDraft cover.instance cover heads rows → record { instance = cover.instance; rows = rows } ≡ v → cost v.instance (rota_of v.rows) < 1000000000000000
view_below v cover heads rows h e =
    subst (λ (w : Drafting). cost w.instance (rota_of w.rows) < 1000000000000000) e
    (costs_below cover.instance (rota_of rows) h.valid (legal_rows_parts cover.instance rows (draft_legal cover.instance cover heads rows h)).legal)
