use Rattle.shift_instance.proofs.Common.{◌≡◌, ◌∙◌, ap, sym, subst, List, Kind, Problem, AreGraphs}
use Rattle.shift_instance.proofs.Made.{inside, listed_kinds, few_listed, ruled_kinds}
use Rattle.shift_instance.proofs.Instance.completed.Goals as goal

pub list_shifts-requires-clause-few : goal.list_shifts-requires-clause-few
list_shifts-requires-clause-few c = few_listed c.args.parts c.as_slice.result.now c.requires (c.as_slice.ensures.value ∙ ap (λ (q : Problem). q.kinds) c.parts.view_is)

pub list_shifts-requires-clause-listed : goal.list_shifts-requires-clause-listed
list_shifts-requires-clause-listed c = listed_kinds c.args.parts c.as_slice.result.now c.requires (c.as_slice.ensures.value ∙ ap (λ (q : Problem). q.kinds) c.parts.view_is)

pub type_graphs-requires-clause-listed : goal.type_graphs-requires-clause-listed
type_graphs-requires-clause-listed c = listed_kinds c.args.parts c.as_slice-2.result.now c.requires (c.as_slice-2.ensures.value ∙ ap (λ (q : Problem). q.kinds) c.parts.view_is)

pub type_graphs-requires-clause-rules : goal.type_graphs-requires-clause-rules
type_graphs-requires-clause-rules c = ruled_kinds c.args.parts c.as_slice-2.result.now c.requires (c.as_slice-2.ensures.value ∙ ap (λ (q : Problem). q.kinds) c.parts.view_is)

pub invariant_of-result : goal.invariant_of-result
invariant_of-result c =
    let first : c.as_slice.result.now ≡ c.args.parts.kinds = c.as_slice.ensures.value ∙ ap (λ (q : Problem). q.kinds) c.parts.view_is in
    let second : c.as_slice-2.result.now ≡ c.args.parts.kinds = c.as_slice-2.ensures.value ∙ ap (λ (q : Problem). q.kinds) c.parts.view_is in
    inside c.args.parts c.as_slice.result.now c.in_ok-shifts.shifts.items c.in_ok-graphs.graphs.items c.requires first c.in_ok-shifts.ensures
    (subst (λ (ks : List Kind). AreGraphs ks c.in_ok-graphs.graphs.items) (second ∙ sym first) c.in_ok-graphs.ensures)
