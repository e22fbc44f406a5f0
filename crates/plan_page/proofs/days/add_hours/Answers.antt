use Rattle.plan_page.proofs.Common.{string_bytes, joined, joined_last, day_hours}
use Rattle.plan_page.proofs.days.add_hours.Goals as goal

pub returns : goal.returns
unfolding day_hours
returns c =
    let old = string_bytes c.args.page.now in
    let one = joined old _ _ c.in_ok-add_duties.ensures c.in_ok-add_wanted_worked.ensures in
    let two = joined old _ _ one c.in_ok-begin_over.ensures in
    let three = joined old _ _ two c.in_ok-add_spans.ensures in
    joined_last c.end_hours.result old _ _ (string_bytes c.end_hours.new.page) three c.end_hours.ensures
