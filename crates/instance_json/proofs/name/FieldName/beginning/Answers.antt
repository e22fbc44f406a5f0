use Rattle.instance_json.proofs.Common.{◌≡◌, ◌≤◌, take, IsUtf8, sym, ap, ◌∙◌, subst, arith, length-take, utf8_valid_len_le, IfOk-weaker, utf8_valid_len}
use Rattle.instance_json.proofs.Names.{first_bytes, shown-text, shown-cut}
use Rattle.instance_json.proofs.name.FieldName.beginning.Goals as goal

pub returns-in-Ok : goal.returns-in-Ok
returns-in-Ok c =
    let cases = c.in-Ok.ensures.cases in
    let front : take c.min.result c.as_bytes-bytes.result.now ≡ take 64 c.args.name.now =
    first_bytes c.args.name.now c.as_bytes-bytes.result.now c.min.result c.as_bytes-bytes.ensures.value c.min.ensures in
    let is_text : IsUtf8 (take 64 c.args.name.now) = subst IsUtf8 front cases.1 in
    IfOk-weaker c.new.result _ _ (λ n e. e ∙ cases.0 ∙ front ∙ sym (shown-text c.args.name.now is_text)) c.new.ensures

pub returns-in-Ok-from_utf8 : goal.returns-in-Ok-from_utf8
returns-in-Ok-from_utf8 c =
    let front : take c.min.result c.as_bytes-bytes.result.now ≡ take 64 c.args.name.now =
    first_bytes c.args.name.now c.as_bytes-bytes.result.now c.min.result c.as_bytes-bytes.ensures.value c.min.ensures in
    let cut : c.valid_up_to.result ≡ utf8_valid_len (take 64 c.args.name.now) =
    c.valid_up_to.ensures ∙ c.in-Err.ensures.valid_len ∙ ap utf8_valid_len front in
    let few : c.valid_up_to.result ≤ 64 = omega (arith, cut, utf8_valid_len_le (take 64 c.args.name.now), length-take 64 c.args.name.now) in
    IfOk-weaker c.new-in-Ok-from_utf8.result _ _ (λ n e. e ∙ c.in-Ok-from_utf8.ensures.cases.0 ∙ ap (take c.valid_up_to.result) front ∙ sym (shown-cut c.args.name.now c.valid_up_to.result cut few)) c.new-in-Ok-from_utf8.ensures
