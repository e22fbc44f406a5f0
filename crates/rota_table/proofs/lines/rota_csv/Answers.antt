use Rattle.rota_table.proofs.Common.{◌≡◌, ℕ, ◌++◌, ◌≤◌, Bor, IfOk, List, length, map, ap, subst, ◌∙◌, flat_map, take_all, default_writer, row_text, rota_columns, most_breaks, rota_text, row_records}
use Rattle.std.proofs.lemmas.List.Elements.{All-same}
use Rattle.shift_instance.specs.declared.Row.{Row}
use Rattle.plan_tables.specs.Starting.{IsKnown, by_start}
use Rattle.plan_tables.proofs.Starts.{known_by_start, mapped_at, text_more}
use Rattle.rota_table.proofs.lines.rota_csv.Goals as goal

pub with_row-requires : goal.with_row-requires
with_row-requires c =
    let i = c.args.instance.now in
    let rows = c.args.rows.now in
    let items = c.deref-row-items.result.now in
    let f = λ (r : Bor Row). r.now in
    let same : map f items ≡ by_start i rows = ap (λ (xs : List (Bor Row)). map f xs) c.deref-row-items.ensures.value ∙ c.in_ok-ordered.ensures in
    (mapped_at (IsKnown i) f items c.loop-row.row-index c.row-item.result (All-same (IsKnown i) (map f items) (by_start i rows) same (known_by_start i rows c.row-item.result.now c.requires)) c.loop-row-test.true c.row-item.is).shift

pub loop-row-preserved : goal.loop-row-preserved
loop-row-preserved c =
    let i = c.args.instance.now in
    let names = c.args.names.now in
    let most = most_breaks c.args.rows.now in
    let head = row_text default_writer (rota_columns most) in
    c.in_ok-records-2.ensures
    ∙ ap (λ (n : ℕ). c.loop-row.records ++ row_records i names n c.row-item.result.now) c.most_breaks-most.ensures
    ∙ ap (λ (text : List ℕ). text ++ row_records i names most c.row-item.result.now) c.loop-row.invariant
    ∙ text_more (row_records i names most) (λ (r : Bor Row). r.now) c.deref-row-items.result.now c.loop-row.row-index c.row-item.result head c.loop-row-test.true c.row-item.is

pub returns : goal.returns
returns c =
    let i = c.args.instance.now in
    let rows = c.args.rows.now in
    let names = c.args.names.now in
    let most = most_breaks rows in
    let head = row_text default_writer (rota_columns most) in
    let items = c.deref-row-items.result.now in
    let f = λ (r : Bor Row). r.now in
    let far : length items ≤ c.loop-row.row-index = c.loop-row-test.false in
    let same : map f items ≡ by_start i rows = ap (λ (xs : List (Bor Row)). map f xs) c.deref-row-items.ensures.value ∙ c.in_ok-ordered.ensures in
    let all : c.loop-row.records ≡ rota_text i names rows =
    c.loop-row.invariant
    ∙ ap (λ (xs : List (Bor Row)). head ++ flat_map (row_records i names most) (map f xs)) (take_all c.loop-row.row-index items far)
    ∙ ap (λ (xs : List Row). head ++ flat_map (row_records i names most) xs) same in
    subst (λ (text : List ℕ). IfOk c.into_bytes.result (λ bytes. bytes.items ≡ text)) all c.into_bytes.ensures
