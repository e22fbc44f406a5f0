use Rattle.pricing.proofs.Common.{◌≤◌, ◌<◌, ◌≡◌, ◌∙◌, sym, subst, arith, to_z, of_z, w64, to_z-of_z, Spot, node_at, IsValue}
use Rattle.pricing.proofs.values.value_anew.Goals as goal

pub returns-then-spot-last-clause-value : goal.returns-then-spot-last-clause-value
returns-then-spot-last-clause-value g c = λ list st.
    let is : to_z w64 (of_z w64 c.value_of.result) ≡ c.value_of.result = to_z-of_z w64 c.value_of.result (record { sfits = c.value_of.type_inv }) in
    subst (IsValue c.args.rule.now c.args.len c.args.sums.now list) (sym is) (c.value_of.ensures list st)

pub returns-then-spot-last-clause-none : goal.returns-then-spot-last-clause-none
returns-then-spot-last-clause-none g c = λ behind.
    let early : (node_at c.args.graph.now c.args.k).spot.offset ≤ c.args.last = subst (λ (s : Spot). s.offset ≤ c.args.last) c.spot.ensures c.if-spot-last.true in
    omega arith

pub returns-else-spot-last-clause-value : goal.returns-else-spot-last-clause-value
returns-else-spot-last-clause-value g c = λ list st.
    let is = to_z-of_z w64 c.sum_before.result (record { sfits = c.sum_before.type_inv }) ∙ c.sum_before.ensures in
    subst (IsValue c.args.rule.now c.args.len c.args.sums.now list) (sym is)
    (c.requires.kept c.args.k list (subst (λ (s : Spot). c.args.last < s.offset) c.spot.ensures c.if-spot-last.false) st)
