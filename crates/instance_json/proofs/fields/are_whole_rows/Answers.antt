use Rattle.instance_json.proofs.Common.{ap, ◌∙◌, list_all, view, is_row}
use Rattle.instance_json.proofs.Lists.{are_rows_of_list}
use Rattle.instance_json.proofs.fields.are_whole_rows.Goals as goal

pub returns-in-Some : goal.returns-in-Some
returns-in-Some c =
    c.all_rows.ensures
    ∙ ap (list_all (λ v. is_row c.args.wide (view v))) c.deref.ensures.value
    ∙ are_rows_of_list c.args.wide (view c.args.value.now) c.in-Some.list.now.items c.in-Some.ensures
