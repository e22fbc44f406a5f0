use Rattle.break_layers.proofs.Common.{◌+◌, ◌-◌, ◌*◌, sym, subst, arith, map, number_in, IsMostIn}
use Rattle.break_layers.proofs.Sliding.{most_one, most_two}
use Rattle.break_layers.proofs.windows.raise_to_windows.Goals as goal

pub loop-wide-init : goal.loop-wide-init
loop-wide-init g c = record { some = omega arith; within = omega arith; most = λ day d k. most_one (map (g.N.Number.on day) c.args.row.now) k }

pub loop-wide-preserved : goal.loop-wide-preserved
loop-wide-preserved g c =
    let wide = c.loop-wide.wide in
    record {
      some = omega arith;
      within = omega arith;
      most = λ day d k.
          let row = map (g.N.Number.on day) c.args.row.now in
          let now = map (g.N.Number.on day) c.loop-wide.row in
          subst (IsMostIn row k (wide * 2)) (sym (c.raise_by.ensures day d k))
          (most_two row k wide (k + wide) wide (wide * 2) (number_in now k) (number_in now (k + wide)) (omega arith) (omega arith) (omega arith) (omega arith)
          (c.loop-wide.invariant.most day d k) (c.loop-wide.invariant.most day d (k + wide)));
    }

pub returns : goal.returns
returns g c = λ day d k.
    let row = map (g.N.Number.on day) c.args.row.now in
    let now = map (g.N.Number.on day) c.loop-wide.row in
    let wide = c.loop-wide.wide in
    let by = c.args.width - wide in
    subst (IsMostIn row k c.args.width) (sym (c.raise_by-2.ensures day d k))
    (most_two row k wide (k + by) wide c.args.width (number_in now k) (number_in now (k + by)) (omega arith) (omega arith) (omega arith) (omega arith)
    (c.loop-wide.invariant.most day d k) (c.loop-wide.invariant.most day d (k + by)))
