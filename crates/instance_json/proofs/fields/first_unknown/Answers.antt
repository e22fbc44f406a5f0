use Rattle.instance_json.proofs.Common.{ℕ, Bor, List, Some, None, not, option_map, ap, ◌∙◌, view, is_known}
use Rattle.instance_json.proofs.Lists.{found_name}
use Rattle.instance_json.proofs.fields.first_unknown.Goals as goal

pub returns-in_err-name : goal.returns-in_err-name
returns-in_err-name c =
    ap (option_map (λ (s : Bor (List ℕ)). s.now)) c.from_residual-in_err-name.ensures
    ∙ found_name (λ name. not (is_known c.args.fields.now name)) (view c.args.value.now) c.in_ok-as_object.field-0.now None c.in_ok-as_object.ensures c.in_err-name.ensures

pub returns : goal.returns
returns c =
    ap Some c.as_str.ensures.value
    ∙ found_name (λ name. not (is_known c.args.fields.now name)) (view c.args.value.now) c.in_ok-as_object.field-0.now (Some c.in_ok-name.name) c.in_ok-as_object.ensures c.in_ok-name.ensures
