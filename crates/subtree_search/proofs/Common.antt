-- The names that most proofs of this crate cite, passed on from one place. Declares nothing.
pub use Rattle.std.proofs.Common.{◌≡◌, ◌⊎◌, inl, inr, ℕ, ◌+◌, ◌<◌, ◌≤◌, Bool, true, false, not, List, length, refl, sym, ap, ◌∙◌, subst, arith, nat_lt, Option, Some, None, zero, suc, min, cond, ◌&&◌, [], ◌∷◌, ◌++◌, set, sum_by, ◌*◌, ◌^◌, nat_le, ◌-◌, append_assoc, fold, take}
pub use Rattle.std.proofs.lemmas.Bool.{and_parts, and_from, cases_Bool, cases_lt, lt-ltb, ltb-true, false≢true, not-true, cond_both, eq-eqb, not-false, leb-true, le-leb}
pub use Rattle.std.proofs.lemmas.List.{append-nil, set-set, length-append, length-set, length_push}
pub use Rattle.std.proofs.lemmas.List.Sums.{sum_by-cons, sum_by-append}
pub use Rattle.std.proofs.lemmas.Option.{slice_get_within, slice_get_read}
pub use Rattle.std.specs.Option.{option_map_or, option_map}
pub use Rattle.std.specs.Prelude.{slice_get, MatchOption, IsSomeAnd, IsFalse, IsTrue, IfSome}
pub use Rattle.advice.specs.declared.advice.Advice.{Advice}
pub use Rattle.advice.specs.declared.advice.Splitting.{Splitting}
pub use Rattle.advisers.specs.Advised.{greedy_advice, kept_after, plan_with_cost, IsOwn}
pub use Rattle.break_rules.specs.Lists.{Has}
pub use Rattle.certificate.specs.declared.proof_lines.Line.TheVariants.{Settled, Split, Priced}
pub use Rattle.dual_bound.specs.Proved.{Proving, IsProved}
pub use Rattle.dual_bound.specs.Settling.{IsPlan, Settling}
pub use Rattle.dual_bound.specs.declared.settling.Fixing.{Fixing}
pub use Rattle.dual_bound.specs.declared.settling.Fixing.TheVariants.{Open, Done}
pub use Rattle.head_splits.proofs.Nodes.{Has-slice_get, floor_from, from_set}
pub use Rattle.head_splits.proofs.Splits.{span_left, span_right, high_most}
pub use Rattle.head_splits.proofs.Walked.{map_ok}
pub use Rattle.head_splits.specs.Bound.{are_prices}
pub use Rattle.head_splits.specs.Cuts.{meets, meets_cut, low, high}
pub use Rattle.head_splits.specs.Nodes.{Node, child, settled_floor, with_floor, with_split, new_node}
pub use Rattle.head_splits.specs.Settled.{is_empty, settled_plan, span, is_live_class, is_settled}
pub use Rattle.head_splits.specs.declared.Class.{Class}
pub use Rattle.head_splits.specs.declared.Cut.{Cut}
pub use Rattle.head_splits.specs.declared.Prices.{Prices}
pub use Rattle.head_splits.specs.declared.Side.TheVariants.{AtMost, AtLeast}
pub use Rattle.report_grafts.proofs.Lines.{FloorsFrom, least_from, after_append, counted_lines, one_good}
pub use Rattle.report_grafts.proofs.Places.{same_some, set_same}
pub use Rattle.report_grafts.specs.Run.{floor_up_to, is_finished, Run, IsSound, is_division, is_pricing, divisions, pricings, IsBest}
pub use Rattle.rota_cost.specs.Costed.{Costing, IsCosted}
pub use Rattle.search_core.proofs.FewNodes.{sum_set}
pub use Rattle.shift_instance.specs.Problem.{Problem, shift_list}
pub use Rattle.shift_instance.specs.Rota.{cost, rota_of, is_legal_rota, is_shift_and}
pub use Rattle.shift_instance.specs.Valid.{IsValid}
pub use Rattle.shift_instance.specs.declared.TheConstants.{TOP}
pub use Rattle.subtree_search.specs.Searching.{is_open, IsNext, Searching, offered, priced, settled, top, top_of, opening, divided}
pub use Rattle.subtree_search.specs.Stepping.{priced_node, run_of, steps_enough, AreSteps, IsClose, IsStep, IsDivision, is_lawful, lawful_split, no_prices, IsBoundFor, IsClosing, AreGreedySteps, IsGreedyRun, IsGreedyStep, IsSearched, IsStepBy, WhyEnds, IsOffer, IsSettlement, lawful_plan}
unfoldable pub use Rattle.subtree_search.specs.Stepping.{lawful_prices}
pub use Rattle.subtree_search.specs.Stepping.AreGreedySteps.{no_step, greedy_step}
pub use Rattle.subtree_search.specs.Stepping.AreSteps.{none, one_more}
pub use Rattle.subtree_search.specs.Stepping.IsClose.{by_price, by_division, by_settling}
