use Rattle.instance_json.proofs.Common.{◌∙◌, codes, view, lunch_of}
use Rattle.instance_json.proofs.Lists.{map_items_at}
use Rattle.instance_json.proofs.document.lunches_of.Goals as goal

pub returns-in_ok-lunches-in-Some : goal.returns-in_ok-lunches-in-Some
returns-in_ok-lunches-in-Some c =
    c.new.ensures ∙ c.in_ok-lunches-in-Some.ensures ∙ map_items_at lunch_of (codes "lunches") (view c.args.value.now) _ c.in-Some.ensures
