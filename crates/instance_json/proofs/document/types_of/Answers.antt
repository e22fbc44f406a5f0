use Rattle.instance_json.proofs.Common.{◌∙◌, codes, IfOk-weaker, view, kind_of}
use Rattle.instance_json.proofs.Lists.{map_items_at}
use Rattle.instance_json.proofs.document.types_of.Goals as goal

pub returns-in-Some : goal.returns-in-Some
returns-in-Some c = IfOk-weaker c.types.result _ _ (λ v e. e ∙ map_items_at kind_of (codes "types") (view c.args.value.now) _ c.in-Some.ensures) c.types.ensures
