use Rattle.break_layers.proofs.Common.{◌≡◌, ◌+◌, ◌-◌, ◌*◌, length, map, sym, ap, subst, ◌∙◌, arith, total_in, total_of, AreLayersBefore, layer_number, layer_count}
use Rattle.break_layers.proofs.Table.{written}
use Rattle.break_layers.proofs.layers.set_layers.Goals as goal

pub loop-number-preserved : goal.loop-number-preserved
loop-number-preserved g c =
    let rule = c.args.rule.now in
    let len = c.args.len in
    let number = c.loop-number.number in
    let layer = c.layer_at-layer.result in
    let i = c.loop-number.invariant in
    let total : c.total_among-total.result ≡ total_of rule len = c.total_among-total.ensures.total ∙ ap (λ t. total_in t len) c.as_slice.ensures in
    let same : layer_number rule len layer ≡ number = ap (λ t. (t - layer.used) * 4 + layer.lunches) (sym total) ∙ c.layer_at-layer.ensures.number in
    let most = written c.loop-number.most.len c.add_layer.new.most c.loop-number.most.items (omega (arith, c.add_layer.auto.most, c.deref_mut.ensures.len)) in
    let row = written c.loop-number.row.len c.add_layer.new.row c.loop-number.row.items (omega (arith, c.add_layer.auto.row, c.deref_mut-in-loop-number.ensures.len)) in
    record {
      most = ap length most ∙ omega (arith, c.add_layer.auto.most, ap length c.deref_mut.ensures.value, i.most);
      row = ap length row ∙ omega (arith, c.add_layer.auto.row, ap length c.deref_mut-in-loop-number.ensures.value, i.row);
      many = c.in_ok-add_layer.ensures.many ∙ ap (λ n. (n + 1) * (len + 1)) same;
      known = λ day d s.
          let on = g.N.Number.on day in
          let sums = map on c.args.sums.now in
          subst (λ n. AreLayersBefore rule len sums ((n + 1) * (len + 1)) (map on c.add_layer.new.table.items)) same
          (c.in_ok-add_layer.ensures.known day d s (subst (λ n. AreLayersBefore rule len sums (n * (len + 1)) (map on c.loop-number.table.items)) (sym same) (i.known day d s)));
    }

pub returns : goal.returns
returns g c = λ day d s.
    let rule = c.args.rule.now in
    let len = c.args.len in
    let on = g.N.Number.on day in
    let total : c.total_among-total.result ≡ total_of rule len = c.total_among-total.ensures.total ∙ ap (λ t. total_in t len) c.as_slice.ensures in
    let end : c.loop-number.number ≡ (c.total_among-total.result + 1) * 4 = omega (arith, c.from.ensures, c.loop-number-test.false, c.loop-number.auto.number-end) in
    let all : c.loop-number.number ≡ layer_count rule len = end ∙ ap (λ t. (t + 1) * 4) total in
    subst (λ n. AreLayersBefore rule len (map on c.args.sums.now) (n * (len + 1)) (map on c.loop-number.table.items)) all (c.loop-number.invariant.known day d s)
