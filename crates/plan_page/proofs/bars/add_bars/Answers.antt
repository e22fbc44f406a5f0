use Rattle.plan_page.proofs.Common.{ℕ, ◌++◌, ◌≤◌, Bor, List, length, map, ap, ◌∙◌, string_bytes, flat_map, take_all, Row, IsKnown, mapped_at, text_more, row_bar}
use Rattle.plan_page.proofs.bars.add_bars.Goals as goal

pub add_row-requires-clause-listed : goal.add_row-requires-clause-listed
add_row-requires-clause-listed c =
    let f = λ (r : Bor Row). r.now in
    (mapped_at (IsKnown c.args.instance.now) f c.args.rows.now c.loop-row.row-index c.row-item.result c.requires.listed c.loop-row-test.true c.row-item.is).shift

pub loop-row-preserved : goal.loop-row-preserved
loop-row-preserved c =
    let piece : Row → List ℕ = row_bar c.args.instance.now c.args.day c.args.starting in
    c.in_ok-add_row.ensures
    ∙ ap (λ (page : List ℕ). page ++ piece c.row-item.result.now) c.loop-row.invariant
    ∙ text_more piece (λ (r : Bor Row). r.now) c.args.rows.now c.loop-row.row-index c.row-item.result (string_bytes c.args.page.now) c.loop-row-test.true c.row-item.is

pub returns : goal.returns
returns c =
    let f = λ (r : Bor Row). r.now in
    let piece : Row → List ℕ = row_bar c.args.instance.now c.args.day c.args.starting in
    let far : length c.args.rows.now ≤ c.loop-row.row-index = c.loop-row-test.false in
    c.loop-row.invariant ∙ ap (λ (rows : List (Bor Row)). string_bytes c.args.page.now ++ flat_map piece (map f rows)) (take_all c.loop-row.row-index c.args.rows.now far)
