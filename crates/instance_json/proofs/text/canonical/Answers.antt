use Rattle.instance_json.proofs.Common.{◌≡◌, ap, ◌∙◌, string_bytes, view, has_float, compact_text, document_data, canonical_text}
use Rattle.instance_json.proofs.Texts.{has_float-document}
use Rattle.instance_json.proofs.text.canonical.Goals as goal

pub returns : goal.returns
unfolding canonical_text
returns c =
    let stated : view c.in_ok-document_value.field-0 ≡ document_data c.args.instance.now =
    c.in_ok-document_value.ensures ∙ ap document_data c.parts.ensures.parts in
    let text : string_bytes c.in_ok-text.text ≡ compact_text (view c.in_ok-document_value.field-0) =
    c.in_ok-text.ensures.text (ap has_float stated ∙ has_float-document c.args.instance.now) in
    ap (λ v. v.items) c.into_bytes.ensures.value ∙ text ∙ ap compact_text stated
