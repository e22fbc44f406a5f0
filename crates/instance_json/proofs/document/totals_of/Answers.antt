use Rattle.instance_json.proofs.Common.{◌∙◌, codes, view, total_of}
use Rattle.instance_json.proofs.Lists.{map_items_at}
use Rattle.instance_json.proofs.document.totals_of.Goals as goal

pub returns-in_ok-totals-in-Some : goal.returns-in_ok-totals-in-Some
returns-in_ok-totals-in-Some c =
    c.new.ensures ∙ c.in_ok-totals-in-Some.ensures ∙ map_items_at total_of (codes "totals") (view c.args.value.now) _ c.in-Some.ensures
