use Rattle.break_graph.proofs.Common.{◌∷◌, [], inl, inr, take, get_or, sym, ap, subst, ◌∙◌, false≢true, take_all, take_more, Has, Has-append_cases, same_break_decides, Edge}
use Rattle.break_graph.proofs.Elements.{Has-get_or}
use Rattle.break_graph.proofs.behind.edge_with.Goals as goal

pub loop-edge-init : goal.loop-edge-init
loop-edge-init c = record { others = λ e m. absurd m }

pub returns-then-eq : goal.returns-then-eq
returns-then-eq c =
    let d : Edge = record { stop = record { start = 0; len = 0 }; next = 0 } in
    let e = get_or c.args.edges.now c.loop-edge.edge-index d in
    (Has-get_or c.args.edges.now c.loop-edge.edge-index d c.loop-edge-test.true, (same_break_decides e.stop c.args.stop).0 (sym c.eq.ensures ∙ c.if-eq.true))

pub loop-edge-preserved : goal.loop-edge-preserved
loop-edge-preserved c =
    let d : Edge = record { stop = record { start = 0; len = 0 }; next = 0 } in
    let i = c.loop-edge.edge-index in
    let at = get_or c.args.edges.now i d in
    record {
      others = λ e m s. elim (Has-append_cases (take i c.args.edges.now) (at ∷ []) e (subst (λ l. Has l e) (take_more c.args.edges.now i d c.loop-edge-test.true) m)) [
        | inl before ↦ c.loop-edge.invariant.others e before s
        | inr last ↦ elim last [
          | inl same ↦ false≢true (sym (sym c.eq.ensures ∙ c.if-eq.false) ∙ (same_break_decides at.stop c.args.stop).1 (ap (λ (e : Edge). e.stop) same ∙ s))
          | inr none ↦ none
        ]
      ];
    }

pub returns : goal.returns
returns c = λ e m s. c.loop-edge.invariant.others e (subst (λ l. Has l e) (sym (take_all c.loop-edge.edge-index c.args.edges.now c.loop-edge-test.false)) m) s
