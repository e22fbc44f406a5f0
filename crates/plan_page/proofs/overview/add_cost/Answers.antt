use Rattle.plan_page.proofs.Common.{string_bytes, joined, joined_last, cost_table}
use Rattle.plan_page.proofs.overview.add_cost.Goals as goal

pub returns : goal.returns
unfolding cost_table
returns c =
    let old = string_bytes c.args.page.now in
    let one = joined old _ _ c.in_ok-begin_cost.ensures c.in_ok-add_part.ensures in
    let two = joined old _ _ one c.in_ok-add_part-2.ensures in
    let three = joined old _ _ two c.in_ok-add_part-3.ensures in
    joined_last c.end_cost.result old _ _ (string_bytes c.end_cost.new.page) three c.end_cost.ensures
