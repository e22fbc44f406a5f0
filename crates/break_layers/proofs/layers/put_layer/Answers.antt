use Rattle.break_layers.proofs.Common.{◌≡◌, ◌+◌, ◌++◌, ◌∷◌, [], ◌*◌, ◌≤◌, length, length-append, map, sym, ap, subst, ◌∙◌, arith, length-map, map_push, Spot, end_of_all, number_in, layer_number, layer_of, AreLayersBefore, IsReachOfAll}
use Rattle.break_layers.proofs.Ending.{layers_more}
use Rattle.break_layers.proofs.layers.put_layer.Goals as goal

pub loop-offset-preserved : goal.loop-offset-preserved
loop-offset-preserved g c =
    let rule = c.args.rule.now in
    let len = c.args.len in
    let table = c.loop-offset.table.items in
    let layer = c.args.layer in
    let offset = c.loop-offset.offset in
    let i = c.loop-offset.invariant in
    let x = c.value_behind.result in
    let items : c.push.new.self.items ≡ table ++ x ∷ [] = c.in_ok-push.ensures.items in
    let inside : offset ≤ len = omega arith in
    record {
      many = ap length items ∙ length-append table (x ∷ []) ∙ omega (arith, i.many);
      known = λ day d s known reaches.
          let on = g.N.Number.on day in
          let sums = map on c.args.sums.now in
          subst (AreLayersBefore rule len sums (layer_number rule len layer * (len + 1) + (offset + 1))) (sym (ap (map on) items ∙ map_push on table x))
          (layers_more rule len sums (map on table) layer offset (on x) c.requires.rule inside (omega (arith, c.requires.total, c.requires.used)) c.requires.lunches (length-map table on ∙ i.many) (i.known day d s known reaches)
          (λ list walk is.
          let at : offset ≡ end_of_all list = ap (λ (s : Spot). s.offset) is in
          let own : layer ≡ layer_of rule list = ap (λ (s : Spot). record { used = s.used; lunches = s.lunches }) is in
          c.value_behind.ensures day d s list walk is
          (subst (IsReachOfAll rule len sums list) (sym (c.number_at.ensures day d ∙ ap (number_in (map on c.args.most.now)) at)) (reaches list walk own))));
    }
