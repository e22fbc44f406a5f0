use Rattle.plan_tables.proofs.Common.{◌≡◌, ℕ, ◌++◌, ◌≤◌, Bor, IfOk, List, length, map, ap, ◌∙◌, subst, flat_map, take_all, All-same, default_writer, row_text, Row, duties_text, duty_columns, duty_record, IsKnown, by_start}
use Rattle.plan_tables.proofs.Starts.{known_by_start, mapped_at, text_more}
use Rattle.plan_tables.proofs.tables.duties_csv.Goals as goal

pub with_row-requires : goal.with_row-requires
with_row-requires c =
    let i = c.args.instance.now in
    let rows = c.args.rows.now in
    let items = c.deref-row-items.result.now in
    let f = λ (r : Bor Row). r.now in
    let same : map f items ≡ by_start i rows = ap (λ (xs : List (Bor Row)). map f xs) c.deref-row-items.ensures.value ∙ c.in_ok-ordered.ensures in
    (mapped_at (IsKnown i) f items c.loop-row.row-index c.row-item.result (All-same (IsKnown i) (map f items) (by_start i rows) same (known_by_start i rows c.row-item.result.now c.requires)) c.loop-row-test.true c.row-item.is).shift

pub loop-row-preserved : goal.loop-row-preserved
loop-row-preserved c =
    let i = c.args.instance.now in
    c.in_ok-records-2.ensures
    ∙ ap (λ (text : List ℕ). text ++ duty_record i c.row-item.result.now) c.loop-row.invariant
    ∙ text_more (duty_record i) (λ (r : Bor Row). r.now) c.deref-row-items.result.now c.loop-row.row-index c.row-item.result (row_text default_writer duty_columns) c.loop-row-test.true c.row-item.is

pub returns : goal.returns
returns c =
    let i = c.args.instance.now in
    let rows = c.args.rows.now in
    let items = c.deref-row-items.result.now in
    let f = λ (r : Bor Row). r.now in
    let far : length items ≤ c.loop-row.row-index = c.loop-row-test.false in
    let same : map f items ≡ by_start i rows = ap (λ (xs : List (Bor Row)). map f xs) c.deref-row-items.ensures.value ∙ c.in_ok-ordered.ensures in
    let all : c.loop-row.records ≡ duties_text i rows =
    c.loop-row.invariant
    ∙ ap (λ (xs : List (Bor Row)). row_text default_writer duty_columns ++ flat_map (duty_record i) (map f xs)) (take_all c.loop-row.row-index items far)
    ∙ ap (λ (xs : List Row). row_text default_writer duty_columns ++ flat_map (duty_record i) xs) same in
    subst (λ (text : List ℕ). IfOk c.into_bytes.result (λ bytes. bytes.items ≡ text)) all c.into_bytes.ensures
