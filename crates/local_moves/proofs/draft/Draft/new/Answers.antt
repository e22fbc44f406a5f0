use Rattle.local_moves.proofs.Common.{◌≡◌, ◌*◌, ◌∙◌, ℕ, List, length, sym, ap, subst, rules, shift_list, Row, heads_on, rota_of, Covering, IsDraft}
use Rattle.rota_cost.proofs.Counts.{written_back}
use Rattle.local_moves.proofs.CountedRows.{draft_new}
use Rattle.local_moves.proofs.draft.Draft.new.Goals as goal

pub invariant_of-result : goal.invariant_of-result
invariant_of-result c =
    let i = c.args.instance.now in
    let old = c.in_ok-heads.heads.items in
    let new = c.count_rows.new.heads in
    let size : length old ≡ length (shift_list i) * i.days = search rules in
    let n : length old ≡ c.in_ok-heads.heads.len = search rules in
    let same : length new ≡ length old = search rules in
    let back = written_back new old c.in_ok-heads.heads.len (same ∙ n) n in
    subst (λ (hs : List ℕ). IsDraft c.count_rows.new.cover.instance c.count_rows.new.cover hs c.args.rows) (sym back)
    (draft_new i c.count_rows.new.cover new c.args.rows c.days.ensures.valid c.requires (c.in_ok-count_rows.ensures.instance ∙ ap (λ (v : Covering). v.instance) c.in_ok-cover.ensures)
    (c.in_ok-count_rows.ensures.duties ∙ ap (λ (rs : List Row). rota_of rs) c.as_slice.ensures) (same ∙ size)
    (λ s day hs hd. c.in_ok-count_rows.ensures.heads s day hs hd ∙ ap (λ (rs : List Row). heads_on (rota_of rs) s day) c.as_slice.ensures))
