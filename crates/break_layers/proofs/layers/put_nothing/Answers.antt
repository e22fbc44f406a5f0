use Rattle.break_layers.proofs.Common.{◌≡◌, ◌++◌, ◌∷◌, [], ℤ, List, length, length-append, map, ap, ◌∙◌, arith, get_or-append, length-map, map_push, NOTHING, number_in}
use Rattle.break_layers.proofs.layers.put_nothing.Goals as goal

pub loop-preserved : goal.loop-preserved
loop-preserved g c =
    let table = c.loop.table.items in
    let x = c.nothing.result in
    let items : c.push.new.self.items ≡ table ++ x ∷ [] = c.in_ok-push.ensures.items in
    record {
      many = ap length items ∙ length-append table (x ∷ []) ∙ omega (arith, c.loop.invariant.many);
      kept = λ day k less.
          let on = g.N.Number.on day in
          ap (λ (l : List ℤ). number_in l k) (ap (map on) items ∙ map_push on table x) ∙ get_or-append (map on table) (on x ∷ []) NOTHING k (omega (arith, length-map table on, c.loop.invariant.many, less)) ∙ c.loop.invariant.kept day k less;
    }
