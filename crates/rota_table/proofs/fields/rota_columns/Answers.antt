use Rattle.rota_table.proofs.Common.{◌≡◌, ℕ, ◌++◌, List, sym, ap, ◌∙◌, arith, flat_map, flat_map_more, below, below_next, break_columns, first_columns}
use Rattle.rota_table.proofs.fields.rota_columns.Goals as goal

pub loop-number-preserved : goal.loop-number-preserved
loop-number-preserved c =
    let n = c.loop-number.number in
    c.in_ok-add_break_columns.ensures
    ∙ ap (λ (names : List (List ℕ)). names ++ break_columns n) c.loop-number.invariant
    ∙ flat_map_more break_columns first_columns (below n) n
    ∙ ap (λ (ns : List ℕ). first_columns ++ flat_map break_columns ns) (sym (below_next n))

pub returns : goal.returns
returns c =
    let last : c.loop-number.number ≡ c.args.most = omega arith in
    c.loop-number.invariant ∙ ap (λ (n : ℕ). first_columns ++ flat_map break_columns (below n)) last
