use Rattle.instance_json.proofs.Common.{◌∙◌, IfOk-weaker, view, number_up_to}
use Rattle.instance_json.proofs.Lists.{map_items_at}
use Rattle.instance_json.proofs.document.longs_of.Goals as goal

pub returns-in-Some : goal.returns-in-Some
returns-in-Some c = IfOk-weaker c.longs.result _ _ (λ v e. e ∙ map_items_at (number_up_to 4294967295) c.args.name.now (view c.args.value.now) _ c.in-Some.ensures) c.longs.ensures
