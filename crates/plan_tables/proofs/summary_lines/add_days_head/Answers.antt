use Rattle.plan_tables.proofs.Common.{string_bytes, days_head}
use Rattle.plan_tables.proofs.Appending.{joined, joined_last}
use Rattle.plan_tables.proofs.summary_lines.add_days_head.Goals as goal

pub returns : goal.returns
unfolding days_head
returns c =
    let old = string_bytes c.args.text.now in
    let one = joined old _ _ c.in_ok-begin_days_head.ensures c.in_ok-add_right.ensures in
    joined_last c.end_days_head.result old _ _ (string_bytes c.end_days_head.new.text) one c.end_days_head.ensures
