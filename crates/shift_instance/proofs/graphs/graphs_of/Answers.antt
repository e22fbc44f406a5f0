use Rattle.shift_instance.proofs.Common.{[], ◌∷◌, map, ap, subst, ◌∙◌, arith, IfSome, arc_value, length-map, map-append, IsGraph, Kind}
use Rattle.shift_instance.proofs.KeptGraphs.{graphs_more}
use Rattle.shift_instance.proofs.graphs.graphs_of.Goals as goal

pub loop-len-preserved : goal.loop-len-preserved
loop-len-preserved c =
    let kind = c.args.kind.now in
    let list = c.loop-len.list.items in
    let is : IsGraph c.kind.inside.rule c.loop-len.len (arc_value c.in-Some.graph) = subst (λ found. IfSome found (λ g. IsGraph c.kind.inside.rule c.loop-len.len (arc_value g))) c.in-Some.is c.in_ok-graph.ensures in
    record {
      many = omega (arith, c.in_ok-push.ensures.len, c.loop-len.invariant.many, c.loop-len.auto.len);
      made = graphs_more kind c.kind.inside.rule c.kind.inside.len_min c.loop-len.len (map arc_value list) (map arc_value c.push.new.self.items) (arc_value c.in-Some.graph)
          (ap (λ (k : Kind). k.rule) c.kind.view_is) (ap (λ (k : Kind). k.len_min) c.kind.view_is) c.loop-len.auto.len (length-map list arc_value ∙ c.loop-len.invariant.many) c.loop-len.invariant.made is
          (ap (map arc_value) c.in_ok-push.ensures.items ∙ map-append arc_value list (c.in-Some.graph ∷ []));
    }
