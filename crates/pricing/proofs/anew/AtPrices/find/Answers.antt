use Rattle.pricing.proofs.Common.{◌≡◌, ◌∙◌, sym, ap, subst, List, ℕ, ℤ, Some, Result, Ok, Err, length, arc_value, slice_get, Rule, Node, IsGraph, Shift, shift_list, AreSums, some_at, AreValues, IsBestFound, IsShiftOf, AreValuesAbove, AreKeptAbove, AreRestsKept, IsFoundAt, IsGraphKept}
use Rattle.std.proofs.Common.{IfOk}
use Rattle.pricing.specs.declared.anew.AtPrices.{AtPrices}
use Rattle.pricing.proofs.Worths.{some_of}
use Rattle.pricing.proofs.anew.AtPrices.find.Given.{Over}
use Rattle.pricing.proofs.anew.AtPrices.find.Goals as goal
use Rattle.pricing.proofs.anew.AtPrices.find.Goals.{In_ok-sums}

-- the shift with its rule
record IsShiftOfCall (g : Over) (c : In_ok-sums g) (x : Shift × Rule) : Type 0 where
  rule : c.rule_of-rule.result.now ≡ x.1
  len : c.shift-len.result.len ≡ x.0.len

the_shift : (g : Over) (c : In_ok-sums g) (x : Shift × Rule) → slice_get (shift_list c.args.instance.now) c.args.subject.now.shift ≡ Some x → IsShiftOfCall g c x
the_shift g c x e = record {
  rule = some_at _ x (λ y. c.rule_of-rule.result.now ≡ y.1) e c.rule_of-rule.ensures.rule;
  len = ap (λ (s : Shift). s.len) (some_at _ x (λ y. c.shift-len.result ≡ y.0) e c.shift-len.ensures.shift);
}

some_shift : (g : Over) (c : In_ok-sums g) → (x : Shift × Rule) × (slice_get (shift_list c.args.instance.now) c.args.subject.now.shift ≡ Some x)
some_shift g c = some_of _ (λ y. c.shift-len.result ≡ y.0) c.shift-len.ensures.shift

-- what the search found by the sums is found at the prices
found : (g : Over) (c : In_ok-sums g) {E : Type 0} (r : Result AtPrices E)
    → IfOk r (λ a. AreRestsKept c.rule_of-rule.result.now c.shift-len.result.len c.in_ok-sums.sums.items a.kept)
    → IfOk r (λ a. IsBestFound (record { rule = c.rule_of-rule.result.now; len = c.shift-len.result.len; sums = c.in_ok-sums.sums.items }) c.args.subject.now.trie.entries a.best)
    → IfOk r (λ a. (x : Shift × Rule) → IsShiftOf c.args.instance.now c.args.subject.now.shift x → IsFoundAt c.args.instance.now x c.args.subject.now.day c.args.prices.now c.args.subject.now.trie.entries a.kept a.best)
found g c (Ok a) kept best = λ x e.
    let is = the_shift g c x e in
    let rule = c.rule_of-rule.result.now in
    let sums = c.in_ok-sums.sums.items in
    let bonus = c.args.subject.now.trie.entries in
    record {
      sums = sums;
      sums_of = c.in_ok-sums.ensures.prices x e;
      rests = subst (λ (r : Rule). AreRestsKept r x.0.len sums a.kept) is.rule (subst (λ (n : ℕ). AreRestsKept rule n sums a.kept) is.len kept);
      is_best = subst (λ (r : Rule). IsBestFound (record { rule = r; len = x.0.len; sums = sums }) bonus a.best) is.rule
          (subst (λ (n : ℕ). IsBestFound (record { rule = rule; len = n; sums = sums }) bonus a.best) is.len best);
    }
found g c (Err e) kept best = tt

pub values_anew-requires-clause-kept : goal.values_anew-requires-clause-kept
values_anew-requires-clause-kept g c =
    let own = (goal.at.values_anew-requires-clause-kept g c).In_ok-sums in
    let x = some_shift g own in
    let is = the_shift g own x.0 x.1 in
    let sums = c.in_ok-sums.sums.items in
    let values = c.in-OverGraph.values.items in
    let nodes : c.deref.result.now ≡ arc_value c.in-OverGraph.graph = c.deref.ensures ∙ c.in_ok-graph-in-OverGraph.ensures in
    let base : AreValuesAbove x.0.1 x.0.0.len sums (arc_value c.in-OverGraph.graph) c.args.last values =
    subst (AreKeptAbove x.0.1 x.0.0.len sums c.args.last) c.in-OverGraph.is (c.requires.kept x.0 x.1 sums (c.in_ok-sums.ensures.prices x.0 x.1)) in
    subst (λ (r : Rule). AreValuesAbove r c.shift-len.result.len c.deref-in-OverGraph.result.now c.deref.result.now c.args.last c.deref-in-OverGraph-2.result.now) (sym is.rule)
    (subst (λ (n : ℕ). AreValuesAbove x.0.1 n c.deref-in-OverGraph.result.now c.deref.result.now c.args.last c.deref-in-OverGraph-2.result.now) (sym is.len)
    (subst (λ (l : List ℤ). AreValuesAbove x.0.1 x.0.0.len l c.deref.result.now c.args.last c.deref-in-OverGraph-2.result.now) (sym c.deref-in-OverGraph.ensures.value)
    (subst (λ (l : List Node). AreValuesAbove x.0.1 x.0.0.len sums l c.args.last c.deref-in-OverGraph-2.result.now) (sym nodes)
    (subst (AreValuesAbove x.0.1 x.0.0.len sums (arc_value c.in-OverGraph.graph) c.args.last) (sym c.deref-in-OverGraph-2.ensures.value) base))))

pub over_graph-requires-clause-rests : goal.over_graph-requires-clause-rests
over_graph-requires-clause-rests g c =
    let own = (goal.at.over_graph-requires-clause-rests g c).In_ok-sums in
    let x = some_shift g own in
    let is = the_shift g own x.0 x.1 in
    let rule = c.rule_of-rule.result.now in
    let len = c.shift-len.result.len in
    let values = c.in_ok-values-in-OverGraph.values.items in
    let kept : IsGraph x.0.1 x.0.0.len (arc_value c.in-OverGraph.graph) = subst (IsGraphKept x.0.1 x.0.0.len) c.in-OverGraph.is (c.requires.graph x.0 x.1) in
    record {
      well_formed = c.rule_of-rule.ensures.within;
      graph = subst (IsGraph rule len) (sym c.in_ok-graph-in-OverGraph.ensures)
          (subst (λ (r : Rule). IsGraph r len (arc_value c.in-OverGraph.graph)) (sym is.rule) (subst (λ (n : ℕ). IsGraph x.0.1 n (arc_value c.in-OverGraph.graph)) (sym is.len) kept));
      small = subst (λ (n : ℕ). AreSums n c.in_ok-sums.sums.items) (sym is.len) (c.in_ok-sums.ensures.small x.0 x.1);
      known = subst (λ (l : List Node). AreValues rule len c.in_ok-sums.sums.items l (length l) values) c.deref.ensures
          (subst (λ (l : List ℤ). AreValues rule len l c.deref.result.now (length c.deref.result.now) values) c.deref-in-OverGraph.ensures.value c.in_ok-values-in-OverGraph.ensures.values);
    }

pub by_layers-requires-clause-sums : goal.by_layers-requires-clause-sums
by_layers-requires-clause-sums g c =
    let own = (goal.at.by_layers-requires-clause-sums g c).In_ok-sums in
    let x = some_shift g own in
    subst (λ (n : ℕ). AreSums n c.in_ok-sums.sums.items) (sym (the_shift g own x.0 x.1).len) (c.in_ok-sums.ensures.small x.0 x.1)

pub returns-in_ok-values-in-OverGraph-clause-found : goal.returns-in_ok-values-in-OverGraph-clause-found
returns-in_ok-values-in-OverGraph-clause-found g c =
    found g (goal.at.returns-in_ok-values-in-OverGraph-clause-found g c).In_ok-sums c.over_graph.result c.over_graph.ensures.kept c.over_graph.ensures.best

pub returns-in-ByLayers-clause-found : goal.returns-in-ByLayers-clause-found
returns-in-ByLayers-clause-found g c =
    found g (goal.at.returns-in-ByLayers-clause-found g c).In_ok-sums c.by_layers.result c.by_layers.ensures.kept c.by_layers.ensures.best
