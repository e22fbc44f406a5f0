use Rattle.break_graph.proofs.Common.{◌≡◌, ℕ, ◌++◌, List, [], ◌∷◌, inl, inr, sym, ap, subst, ◌∙◌, append_assoc, Option, filter_map, place_of, nexts_of, spot_of, Has, Has-append_cases, from_next, has_middle, Edge, edge_to, edges_by, number_at}
use Rattle.std.proofs.lemmas.List.Elements.{filter_map-append}
use Rattle.break_graph.proofs.Elements.{Has-get}
use Rattle.break_graph.proofs.Nodes.{below_one}
use Rattle.break_graph.proofs.building.edges_at.Goals as goal

pub loop-next-preserved : goal.loop-next-preserved
loop-next-preserved c =
    let rule = c.args.rule.now in
    let len = c.args.len in
    let next = c.in-Some.next in
    let numbers = c.args.numbers.now in
    let done = c.loop-next.yielded in
    let all : done ++ next ∷ c.next.new.self ≡ nexts_of rule len c.args.spot = ap (λ rest. done ++ rest) (sym c.in-Some.ensures.steps) ∙ c.loop-next.invariant.whole in
    let has : Has (nexts_of rule len c.args.spot) next = subst (λ ns. Has ns next) all (has_middle done c.next.new.self next) in
    record {
      can_next = tt;
      is_finite = tt;
      whole = append_assoc done (next ∷ []) c.next.new.self ∙ all;
      exact = λ list is.
          let place : c.place-behind.result ≡ place_of len (spot_of rule (list ++ next ∷ [])) =
          c.place-behind.ensures ∙ ap (place_of len) (c.after.ensures list is (len, c.ranges.len.fits, from_next rule len c.args.spot next has)) in
          let number : c.number_of.result ≡ number_at numbers (place_of len (spot_of rule (list ++ next ∷ []))) = c.number_of.ensures ∙ ap (number_at numbers) place in
          c.in_ok-add_edge.ensures
          ∙ ap (λ (es : List Edge). es ++ filter_map (edge_to next) (c.number_of.result ∷ [])) (c.loop-next.invariant.exact list is)
          ∙ ap (λ (n : Option ℕ). edges_by rule len numbers list done ++ filter_map (edge_to next) (n ∷ [])) number
          ∙ sym (filter_map-append (λ b. edge_to b (number_at numbers (place_of len (spot_of rule (list ++ b ∷ []))))) done (next ∷ []));
      back = λ bound below e m.
          elim (Has-append_cases c.loop-next.edges.items (filter_map (edge_to next) (c.number_of.result ∷ [])) e (subst (λ (es : List Edge). Has es e) c.in_ok-add_edge.ensures m)) [
            | inl before ↦ c.loop-next.invariant.back bound below e before
            | inr last ↦ below_one bound numbers c.place-behind.result next c.number_of.result e below (sym c.number_of.ensures) last
          ];
    }

pub returns-clause-back : goal.returns-clause-back
returns-clause-back c = λ bound below i e h.
    c.loop-next.invariant.back bound below e (subst (λ (es : List Edge). Has es e) c.new.ensures (Has-get _ i e h))
