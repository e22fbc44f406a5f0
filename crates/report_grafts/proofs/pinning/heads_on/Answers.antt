use Rattle.report_grafts.proofs.Common.{◌≡◌, ◌≤◌, arith, heads_on, rota_of}
use Rattle.report_grafts.proofs.Pinned.{heads_counted, heads_few}
use Rattle.report_grafts.proofs.pinning.heads_on.Goals as goal

pub prove-unreachable-requires : goal.prove-unreachable-requires
prove-unreachable-requires c =
    let rows = c.args.rows.now in
    let n : c.duties_in_class-duties.result ≡ heads_on (rota_of rows) c.args.shift c.args.day =
    heads_counted rows c.as_slice.result.now c.whole_class.result c.args.shift c.args.day c.duties_in_class-duties.result c.duties_in_class-duties.ensures.count c.as_slice.ensures c.whole_class.ensures in
    let few : heads_on (rota_of rows) c.args.shift c.args.day ≤ c.args.instance.now.heads = heads_few c.args.instance.now rows c.args.shift c.args.day c.requires in
    omega (arith, c.if-prove.true, n, few, c.heads.ensures.heads, c.from.ensures)

pub returns : goal.returns
returns c =
    heads_counted c.args.rows.now c.as_slice.result.now c.whole_class.result c.args.shift c.args.day c.duties_in_class-duties.result c.duties_in_class-duties.ensures.count c.as_slice.ensures c.whole_class.ensures
