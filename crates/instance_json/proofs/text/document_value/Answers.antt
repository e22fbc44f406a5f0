use Rattle.instance_json.proofs.Common.{◌∙◌, map, codes, ap, put, view, members_view, Problem, number_data, list_data, kind_data}
use Rattle.serde_json.proofs.Views.{view-Object}
use Rattle.instance_json.proofs.Texts.{document_joined}
use Rattle.instance_json.proofs.text.document_value.Goals as goal

pub returns : goal.returns
returns c =
    let i = c.args.parts.now in
    let same = c.parts.view_is in
    let m0 = members_view c.new-object.result.entries in
    let m1 = members_view c.put_number.new.object.entries in
    let m4 = members_view c.put_bands.new.object.entries in
    view-Object c.put-3.new.map
    ∙ document_joined i (view c.list_value-need.result) (view c.list_value-types.result) (view c.in_ok-weights_value.field-0) m0 m1 (members_view c.put_number-2.new.object.entries) (members_view c.put.new.map.entries) m4
    (members_view c.put_number-3.new.object.entries) (members_view c.put-2.new.map.entries) (members_view c.put-3.new.map.entries)
    (c.list_value-need.ensures ∙ ap list_data (c.in_ok-number_values.ensures ∙ ap (map number_data) (c.as_slice.ensures.value ∙ ap (λ (q : Problem). q.need) same)))
    (c.list_value-types.ensures ∙ ap list_data (c.in_ok-type_values.ensures ∙ ap (map kind_data) (c.as_slice-2.ensures.value ∙ ap (λ (q : Problem). q.kinds) same)))
    c.in_ok-weights_value.ensures
    (ap members_view c.new-object.ensures.empty)
    (c.in_ok-put_number.ensures ∙ ap (λ (q : Problem). put (codes "days") (number_data q.days) m0) same)
    (c.in_ok-put_number-2.ensures ∙ ap (λ (q : Problem). put (codes "max_heads") (number_data q.heads) m1) same)
    c.in_ok-put.ensures.ok
    c.in_ok-put_bands.ensures
    (c.in_ok-put_number-3.ensures ∙ ap (λ (q : Problem). put (codes "slot_minutes") (number_data q.slot_minutes) m4) same)
    c.in_ok-put-2.ensures.ok
    c.in_ok-put-3.ensures.ok
