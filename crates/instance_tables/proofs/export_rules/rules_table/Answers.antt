use Rattle.instance_tables.proofs.Common.{◌≡◌, ℕ, ◌++◌, IfOk, List, ap, ◌∙◌, subst, flat_map, default_writer, row_text, Kind, rule_columns, rule_row, rules_text}
use Rattle.instance_tables.proofs.export_rules.rules_table.Goals as goal

pub returns : goal.returns
returns c =
    let minutes = c.parts.inside.slot_minutes in
    let head : List ℕ = row_text default_writer rule_columns in
    let all : c.in_ok-records-2.records ≡ rules_text c.args.parts.now =
    c.in_ok-records-2.ensures
    ∙ ap (λ (text : List ℕ). text ++ flat_map (rule_row minutes) c.as_slice.result.now) (c.in_ok-records.ensures ∙ ap (λ (text : List ℕ). text ++ head) c.new.ensures)
    ∙ ap (λ (kinds : List Kind). head ++ flat_map (rule_row minutes) kinds) c.as_slice.ensures.value
    ∙ ap rules_text c.parts.view_is in
    subst (λ (text : List ℕ). IfOk c.into_bytes.result (λ bytes. bytes.items ≡ text)) all c.into_bytes.ensures
