use Rattle.plan_page.proofs.Common.{string_bytes, joined, joined_last, chart}
use Rattle.plan_page.proofs.chart.add_chart.Goals as goal

pub returns : goal.returns
unfolding chart
returns c =
    let old = string_bytes c.args.page.now in
    let one = joined old _ _ c.in_ok-add_axis.ensures c.in_ok-add_grid.ensures in
    let two = joined old _ _ one c.in_ok-add_layer.ensures in
    let three = joined old _ _ two c.in_ok-add_layer-2.ensures in
    let four = joined old _ _ three c.in_ok-add_layer-3.ensures in
    let five = joined old _ _ four c.in_ok-add_bands.ensures in
    let six = joined old _ _ five c.in_ok-add_need.ensures in
    joined_last c.add_hours.result old _ _ (string_bytes c.add_hours.new.page) six c.add_hours.ensures
