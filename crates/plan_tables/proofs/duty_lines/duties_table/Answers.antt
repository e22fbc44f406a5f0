use Rattle.plan_tables.proofs.Common.{◌≡◌, ℕ, ◌++◌, ◌≤◌, Bor, List, length, map, ap, ◌∙◌, flat_map, take_all, All-same, Row, duties_head, row_line, IsKnown, by_start}
use Rattle.plan_tables.proofs.Starts.{known_by_start, mapped_at, text_more}
use Rattle.plan_tables.proofs.duty_lines.duties_table.Goals as goal

pub add_row-requires-clause-shift : goal.add_row-requires-clause-shift
add_row-requires-clause-shift c =
    let i = c.args.instance.now in
    let rows = c.args.rows.now in
    let items = c.deref-row-items.result.now in
    let f = λ (r : Bor Row). r.now in
    let same : map f items ≡ by_start i rows = ap (λ (xs : List (Bor Row)). map f xs) c.deref-row-items.ensures.value ∙ c.in_ok-ordered.ensures in
    (mapped_at (IsKnown i) f items c.loop-row.row-index c.row-item.result (All-same (IsKnown i) (map f items) (by_start i rows) same (known_by_start i rows c.row-item.result.now c.requires)) c.loop-row-test.true c.row-item.is).shift

pub loop-row-preserved : goal.loop-row-preserved
loop-row-preserved c =
    let i = c.args.instance.now in
    c.in_ok-add_row.ensures
    ∙ ap (λ (text : List ℕ). text ++ row_line i c.row-item.result.now) c.loop-row.invariant
    ∙ text_more (row_line i) (λ (r : Bor Row). r.now) c.deref-row-items.result.now c.loop-row.row-index c.row-item.result (duties_head i) c.loop-row-test.true c.row-item.is

pub returns : goal.returns
returns c =
    let i = c.args.instance.now in
    let items = c.deref-row-items.result.now in
    let f = λ (r : Bor Row). r.now in
    let far : length items ≤ c.loop-row.row-index = c.loop-row-test.false in
    let same : map f items ≡ by_start i c.args.rows.now = ap (λ (xs : List (Bor Row)). map f xs) c.deref-row-items.ensures.value ∙ c.in_ok-ordered.ensures in
    c.loop-row.invariant
    ∙ ap (λ (xs : List (Bor Row)). duties_head i ++ flat_map (row_line i) (map f xs)) (take_all c.loop-row.row-index items far)
    ∙ ap (λ (xs : List Row). duties_head i ++ flat_map (row_line i) xs) same
