use Rattle.pricing.proofs.Common.{◌≡◌, ◌+◌, ◌++◌, ◌∷◌, [], List, inl, inr, take, drop, get_or, refl, sym, ap, subst, ◌∙◌, to_z, of_z, w64, to_z-of_z, take_all, take_more, drop_more, take-append-drop, Has, Has-append_cases, Edge, sums_on, reach_of}
use Rattle.pricing.proofs.Most.{has_at}
use Rattle.pricing.proofs.day_lists.first_reaching_on.Goals as goal

pub loop-next-init : goal.loop-next-init
loop-next-init c = record { others = λ fit e m. absurd m }

pub returns-then-reach_on-whole-clause-first : goal.returns-then-reach_on-whole-clause-first
returns-then-reach_on-whole-clause-first c = λ fit.
    let d : Edge = record { stop = record { start = 0; len = 0 }; next = 0 } in
    let edges = c.args.edges.now in
    let i = c.loop-next.next-index in
    let whole : to_z w64 (of_z w64 c.args.whole) ≡ c.args.whole = to_z-of_z w64 c.args.whole c.ranges.whole in
    let is : c.reach_on.result ≡ reach_of (sums_on c.args.day c.args.sums.now) (sums_on c.args.day c.args.values.now) (get_or edges i d) = c.reach_on.ensures (fit _ (has_at edges i d c.loop-next-test.true)) in
    let equal : c.reach_on.result ≡ c.args.whole = sym (to_z-of_z w64 c.reach_on.result (record { sfits = c.reach_on.type_inv })) ∙ ap (to_z w64) c.if-reach_on-whole.true ∙ whole in (
      record {
        before = take i edges;
        edge = get_or edges i d;
        after = drop (i + 1) edges;
        whole = sym (take-append-drop i edges) ∙ ap (λ (rest : List Edge). take i edges ++ rest) (drop_more edges i d c.loop-next-test.true);
        reaches = sym is ∙ equal;
        none = λ x m g. c.loop-next.invariant.others fit x m (g ∙ sym whole);
      },
      refl,
    )

pub returns-then-reach_on-whole-clause-has : goal.returns-then-reach_on-whole-clause-has
returns-then-reach_on-whole-clause-has c = has_at c.args.edges.now c.loop-next.next-index (record { stop = record { start = 0; len = 0 }; next = 0 }) c.loop-next-test.true

pub loop-next-preserved : goal.loop-next-preserved
loop-next-preserved c =
    let d : Edge = record { stop = record { start = 0; len = 0 }; next = 0 } in
    let edges = c.args.edges.now in
    let i = c.loop-next.next-index in
    let at = get_or edges i d in
    let reach = reach_of (sums_on c.args.day c.args.sums.now) (sums_on c.args.day c.args.values.now) in
    record {
      others = λ fit e m g. elim (Has-append_cases (take i edges) (at ∷ []) e (subst (λ l. Has l e) (take_more edges i d c.loop-next-test.true) m)) [
        | inl before ↦ c.loop-next.invariant.others fit e before g
        | inr last ↦ elim last [
          | inl same ↦
              let is : c.reach_on.result ≡ reach at = c.reach_on.ensures (fit at (has_at edges i d c.loop-next-test.true)) in
              let equal : c.reach_on.result ≡ to_z w64 (of_z w64 c.args.whole) = is ∙ ap reach same ∙ g in
              c.if-reach_on-whole.false (ap (of_z w64) (equal ∙ to_z-of_z w64 c.args.whole c.ranges.whole))
          | inr none ↦ none
        ]
      ];
    }

pub returns-clause-first : goal.returns-clause-first
returns-clause-first c = λ fit e m g.
    c.loop-next.invariant.others fit e (subst (λ l. Has l e) (sym (take_all c.loop-next.next-index c.args.edges.now c.loop-next-test.false)) m) (g ∙ sym (to_z-of_z w64 c.args.whole c.ranges.whole))
