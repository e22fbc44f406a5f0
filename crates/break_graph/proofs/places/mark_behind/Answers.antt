use Rattle.break_graph.proofs.Common.{arith, sym, ap, ◌∙◌, List, Bool, false, slice_index_or, spot_of, walk_small}
use Rattle.break_graph.proofs.Marks.{walk_front}
use Rattle.break_graph.proofs.places.mark_behind.Goals as goal

pub returns-then-is_marked-clause-reached : goal.returns-then-is_marked-clause-reached
returns-then-is_marked-clause-reached c = λ old.
    let rule = c.args.rule.now in
    let len = c.args.len in
    let r = old c.args.place (ap (λ (t : List Bool). slice_index_or t c.args.place false) (sym c.deref.ensures.value) ∙ sym c.is_marked.ensures ∙ c.if-is_marked.true) in
    let small = walk_small rule len r.0 c.requires.rule r.1 in
    c.mark_nexts.ensures.reached r.0 (c.spot_at.ensures.spot (spot_of rule r.0) small.offset (omega (arith, small.used)) (omega (arith, small.lunches)) r.2) r.1 old

pub returns-then-is_marked-clause-marked : goal.returns-then-is_marked-clause-marked
returns-then-is_marked-clause-marked c = λ list b at marked walk.
    let rule = c.args.rule.now in
    let len = c.args.len in
    let small = walk_small rule len list c.requires.rule (walk_front rule len list b walk).0 in
    c.mark_nexts.ensures.marked list b (c.spot_at.ensures.spot (spot_of rule list) small.offset (omega (arith, small.used)) (omega (arith, small.lunches)) at) walk
