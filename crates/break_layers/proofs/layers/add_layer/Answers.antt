use Rattle.break_layers.proofs.Common.{◌≡◌, ◌+◌, ◌*◌, ◌≤◌, Bool, List, map, sym, ap, subst, ◌∙◌, arith, list_any, false≢true, IfOk-weaker, Lunch, is_lunch, bits_of, Layer, AreLayersBefore, layer_number}
use Rattle.break_layers.proofs.Ending.{dead_layer}
use Rattle.break_layers.proofs.Lunched.{lunch_time}
use Rattle.break_layers.proofs.layers.add_layer.Goals as goal

pub returns-then-not-has_time-clause-known : goal.returns-then-not-has_time-clause-known
returns-then-not-has_time-clause-known g c = λ day d s known.
    let on = g.N.Number.on day in
    dead_layer c.args.rule.now c.args.len (map on c.args.sums.now) (map on c.args.table.now.items) (map on c.put_nothing.new.table.items) c.args.layer c.requires.rule (omega (arith, c.requires.total, c.requires.used)) c.requires.lunches
    (λ k less. c.in_ok-put_nothing.ensures.kept day k (omega (arith, c.requires.many, less))) known
    (λ list walk is.
    let met : Lunch → Bool = λ e. list_any (is_lunch e) list in
    let bits : c.args.layer.lunches ≡ bits_of met c.as_slice.result.now = ap (λ (l : Layer). l.lunches) is ∙ ap (bits_of met) (sym c.as_slice.ensures) in
    false≢true (sym c.if-not-has_time.true ∙ c.has_time.ensures met bits (λ e m h. subst (λ n. e.size ≤ n) (sym (ap (λ (l : Layer). l.used) is)) (lunch_time list e h))))

pub returns-clause-known : goal.returns-clause-known
returns-clause-known g c = IfOk-weaker c.put_layer.result _ _ (λ done h. λ day d s known.
    let on = g.N.Number.on day in
    let rule = c.args.rule.now in
    let len = c.args.len in
    let before = subst (λ (l : List g.row.N.Denot). AreLayersBefore rule len (map on c.args.sums.now) (layer_number rule len c.args.layer * (len + 1)) (map on l)) (sym c.deref.ensures.value) known in
    h day d s known (λ list walk is. c.best_reaches.ensures day d s before list walk is)) c.put_layer.ensures.known
