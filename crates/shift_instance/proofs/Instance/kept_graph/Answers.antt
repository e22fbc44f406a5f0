use Rattle.shift_instance.proofs.Common.{◌≡◌, ℕ, ◌+◌, ◌∙◌, ap, arith, get_or, sym, List, Some, refl, slice_get, arc_value, ltb-true, slice_get_read, Node, Kind, Problem}
use Rattle.shift_instance.proofs.KeptGraphs.{graph_found}
use Rattle.shift_instance.proofs.Instance.kept_graph.Goals as goal

pub returns : goal.returns
returns c =
    let y = c.shift-shift.result in
    let s = c.self.inside in
    let kind = c.index-kind.result.now in
    let at : c.from-number.result ≡ y.kind = c.from-number.ensures in
    let read : kind ≡ get_or c.parts.inside.types.items y.kind kind = c.index-kind.ensures ∙ ap (λ (n : ℕ). get_or c.parts.inside.types.items n kind) at in
    let long : y.len ≡ kind.len_min + c.in_ok-above.above =
    let least : c.kind.inside.len_min ≡ kind.len_min = ap (λ (q : Kind). q.len_min) c.kind.view_is in
    omega (arith, c.in_ok-above.ensures.0, c.in_ok-above.ensures.1) in
    let here : slice_get s.graphs.items y.kind ≡ Some c.in_ok-get.field-0.now =
    ap (λ (gs : List (List (List Node))). slice_get gs y.kind) (sym c.deref.ensures.value) ∙ ap (slice_get c.deref.result.now) (sym at)
    ∙ slice_get_read c.deref.result.now _ c.from-number.result c.in_ok-get.field-0.now refl (ltb-true _ _ (sym c.in_ok-get.ensures.lookup.0)) c.in_ok-get.ensures.lookup.1 in
    graph_found arc_value s.parts c.args.self.now c.args.shift y kind c.in_ok-above.above s.graphs.items c.in_ok-get.field-0.now c.at.result c.self.view_is c.self.invariant.drawn c.requires c.shift-shift.ensures.shift
    (read ∙ ap (λ (q : Problem). get_or q.kinds y.kind kind) c.parts.view_is) long here c.at.ensures
