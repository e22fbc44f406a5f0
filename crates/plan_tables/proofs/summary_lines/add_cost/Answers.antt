use Rattle.plan_tables.proofs.Common.{string_bytes, cost_lines}
use Rattle.plan_tables.proofs.Appending.{joined, joined_last}
use Rattle.plan_tables.proofs.summary_lines.add_cost.Goals as goal

pub returns : goal.returns
unfolding cost_lines
returns c =
    let old = string_bytes c.args.text.now in
    let one = joined old _ _ c.in_ok-add_cost_head.ensures c.in_ok-add_part.ensures in
    let two = joined old _ _ one c.in_ok-add_part-2.ensures in
    let three = joined old _ _ two c.in_ok-add_part-3.ensures in
    joined_last c.add_cost_line.result old _ _ (string_bytes c.add_cost_line.new.text) three c.add_cost_line.ensures
