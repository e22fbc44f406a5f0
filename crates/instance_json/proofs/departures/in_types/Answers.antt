use Rattle.instance_json.proofs.Common.{map, codes, ap, ◌∙◌, IfOk-weaker, enumerate_from, view, first_some, type_departure}
use Rattle.instance_json.proofs.Lists.{views_at}
use Rattle.instance_json.proofs.departures.in_types.Goals as goal

pub returns-in-Some : goal.returns-in-Some
returns-in-Some c =
    let items = views_at (codes "types") (view c.args.value.now) c.in-Some.list.now c.in-Some.ensures in
    IfOk-weaker c.in_list.result _ _ (λ found e. e ∙ ap (λ ds. first_some (map type_departure (enumerate_from 1 ds))) items) c.in_list.ensures
