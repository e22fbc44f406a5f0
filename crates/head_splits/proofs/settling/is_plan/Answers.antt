use Rattle.head_splits.proofs.Common.{◌≡◌, ◌&&◌, nat_le, sym, ap, ◌∙◌, list_all, Row, rota_of, heads_on, meets}
use Rattle.head_splits.proofs.settling.is_plan.Goals as goal

pub returns-then-are_few : goal.returns-then-are_few
returns-then-are_few c =
    let rows = c.args.rows.now in
    let few : c.are_few.result ≡ list_all (λ (r : Row). nat_le (heads_on (rota_of rows) r.shift r.day) c.args.instance.now.heads) rows =
    c.are_few.ensures ∙ ap (λ rs. list_all (λ (r : Row). nat_le (heads_on (rota_of rs) r.shift r.day) c.heads.result) rs) c.as_slice.ensures
    ∙ ap (λ n. list_all (λ (r : Row). nat_le (heads_on (rota_of rows) r.shift r.day) n) rows) c.heads.ensures.heads in
    c.meets.ensures ∙ ap (λ b. b && meets (rota_of rows) c.args.cuts.now) (sym (sym few ∙ c.if-are_few.true))

pub returns-else-are_few : goal.returns-else-are_few
returns-else-are_few c =
    let rows = c.args.rows.now in
    let few : c.are_few.result ≡ list_all (λ (r : Row). nat_le (heads_on (rota_of rows) r.shift r.day) c.args.instance.now.heads) rows =
    c.are_few.ensures ∙ ap (λ rs. list_all (λ (r : Row). nat_le (heads_on (rota_of rs) r.shift r.day) c.heads.result) rs) c.as_slice.ensures
    ∙ ap (λ n. list_all (λ (r : Row). nat_le (heads_on (rota_of rows) r.shift r.day) n) rows) c.heads.ensures.heads in
    c.if-are_few.false ∙ ap (λ b. b && meets (rota_of rows) c.args.cuts.now) (sym (sym few ∙ c.if-are_few.false))
