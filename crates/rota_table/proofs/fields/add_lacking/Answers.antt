use Rattle.rota_table.proofs.Common.{ℕ, ◌++◌, List, map, string_bytes, sym, ap, ◌∙◌, flat_map, flat_map_more, below, below_next, lacking_fields}
use Rattle.rota_table.proofs.fields.add_lacking.Goals as goal

pub loop-preserved : goal.loop-preserved
loop-preserved c =
    let n = c.loop.counter in
    let head = map string_bytes c.args.fields.now.items in
    c.in_ok-add_lack.ensures
    ∙ ap (λ (texts : List (List ℕ)). texts ++ lacking_fields n) c.loop.invariant
    ∙ flat_map_more lacking_fields head (below n) n
    ∙ ap (λ (ns : List ℕ). head ++ flat_map lacking_fields ns) (sym (below_next n))
