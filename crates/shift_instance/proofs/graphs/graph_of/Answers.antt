use Rattle.shift_instance.proofs.Common.{◌≡◌, ◌+◌, sym, ap, ◌∙◌, arith, arc_value, Kind}
use Rattle.shift_instance.proofs.KeptGraphs.{graph_at}
use Rattle.shift_instance.proofs.graphs.graph_of.Goals as goal

pub returns : goal.returns
returns c =
    let kind = c.args.kind.now in
    let same : kind.rule ≡ c.args.rule.now = sym (ap (λ (k : Kind). k.rule) c.kind.view_is) ∙ c.are_same.ensures.0 c.if-not-are_same.false in
    let long : kind.len_min + c.in_ok-above.above ≡ c.args.len =
    let least : c.kind.inside.len_min ≡ kind.len_min = ap (λ (k : Kind). k.len_min) c.kind.view_is in
    omega (arith, c.in_ok-above.ensures.0, c.in_ok-above.ensures.1) in
    graph_at arc_value kind c.args.rule.now c.args.len c.in_ok-above.above c.args.graphs.now c.at.result c.requires same long c.at.ensures
