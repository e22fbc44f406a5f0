use Rattle.break_graph.proofs.Common.{◌≡◌, ◌++◌, [], ◌∷◌, inl, inr, sym, ap, subst, ◌∙◌, append_assoc, append-nil, true, false, slice_index_or, arith, Break, place_of, nexts_of, spot_of, Has, Has-append_cases, from_next, has_middle, walk_on}
use Rattle.break_graph.proofs.Marks.{walk_front, place_small}
use Rattle.break_graph.proofs.places.mark_nexts.Goals as goal

pub loop-next-preserved : goal.loop-next-preserved
loop-next-preserved c =
    let rule = c.args.rule.now in
    let len = c.args.len in
    let next = c.in-Some.next in
    let new = c.mark.new.table.items in
    let all : c.loop-next.yielded ++ next ∷ c.next.new.self ≡ nexts_of rule len c.args.spot =
    ap (λ rest. c.loop-next.yielded ++ rest) (sym c.in-Some.ensures.steps) ∙ c.loop-next.invariant.whole in
    let has : Has (nexts_of rule len c.args.spot) next = subst (λ ns. Has ns next) all (has_middle c.loop-next.yielded c.next.new.self next) in
    record {
      can_next = tt;
      is_finite = tt;
      whole = append_assoc c.loop-next.yielded (next ∷ []) c.next.new.self ∙ all;
      many = c.mark.ensures.len ∙ c.loop-next.invariant.many;
      kept = λ other h. c.mark.ensures.kept other (c.loop-next.invariant.kept other h);
      marked = λ list b is walk m. elim (Has-append_cases c.loop-next.yielded (next ∷ []) b m) [
        | inl before ↦ c.mark.ensures.kept (place_of len (spot_of rule (list ++ b ∷ []))) (c.loop-next.invariant.marked list b is walk before)
        | inr last ↦ elim last [
          | inl e ↦
              let at : c.place.result ≡ place_of len (spot_of rule (list ++ b ∷ [])) =
              c.place.ensures ∙ ap (place_of len) (c.after.ensures list is (len, c.ranges.len.fits, from_next rule len c.args.spot next has))
              ∙ ap (λ (x : Break). place_of len (spot_of rule (list ++ x ∷ []))) e in
              let small = place_small rule len (list ++ b ∷ []) c.requires.rule walk in
              subst (λ k. slice_index_or new k false ≡ true) at (c.mark.ensures.marked (omega (arith, c.loop-next.invariant.many, c.requires.long)))
          | inr none ↦ absurd none
        ]
      ];
      reached = λ list is walk old place m.
          let at : c.place.result ≡ place_of len (spot_of rule (list ++ next ∷ [])) =
          c.place.ensures ∙ ap (place_of len) (c.after.ensures list is (len, c.ranges.len.fits, from_next rule len c.args.spot next has)) in
          elim (c.mark.ensures.others place m) [
            | inl same ↦ (list ++ next ∷ [], walk_on rule len list next walk (subst (λ s. Has (nexts_of rule len s) next) is has), sym (same ∙ at))
            | inr before ↦ c.loop-next.invariant.reached list is walk old place before
          ];
    }

pub returns-clause-marked : goal.returns-clause-marked
returns-clause-marked c = λ list b is walk.
    let rule = c.args.rule.now in
    let len = c.args.len in
    let all : c.loop-next.yielded ≡ nexts_of rule len (spot_of rule list) =
    sym (append-nil c.loop-next.yielded) ∙ ap (λ rest. c.loop-next.yielded ++ rest) (sym c.in-None.ensures.steps.0) ∙ c.loop-next.invariant.whole ∙ ap (nexts_of rule len) is in
    c.loop-next.invariant.marked list b is walk (subst (λ ns. Has ns b) (sym all) (walk_front rule len list b walk).1)
