-- The names that most proofs of this crate cite, passed on from one place. Declares nothing.
pub use Rattle.std.proofs.Common.{◌≡◌, inl, inr, ℕ, zero, suc, ◌<◌, List, [], ◌∷◌, length, get_or, slice_get, Some, refl, ap, subst, arith, ◌≢◌, ◌+◌, ◌≤◌, true, map, take, sum_by, sym, ◌∙◌, Option, ◌-◌, ◌++◌, drop, false, append_assoc, rules, ◌*◌, ◌==◌, Bool, cond, filter, append-nil, None, ◌⊎◌, slice_index_or, MatchOption, if◌then◌else◌}
pub use Rattle.std.proofs.lemmas.Bool.{false≢true, cases_lt, cases_Bool, and_parts, cond_both, ne_eqb, eqb-true, eqb-false}
pub use Rattle.std.proofs.lemmas.List.{length-map, take_all, take-take, length-append, get_or-map, take-append-le, drop_at, take_more, take-append-drop, get_or_past, nil_from_length}
pub use Rattle.std.proofs.lemmas.List.Sums.{sum_by_more, sum_by-take-le, sum_by-cons}
pub use Rattle.std.specs.List.{between, find, AllClonesOf, filter_map, cons_option, list_any}
pub use Rattle.break_rules.proofs.FirstList.{first_start, first_none, first_legal, first_step}
pub use Rattle.break_rules.proofs.LegalLists.{live_rest, live_from, no_longer_list, same_break_decides}
pub use Rattle.break_rules.proofs.Lists.{from_map, Has-filter, Has-append_cases}
pub use Rattle.break_rules.proofs.Reaching.{rest_first, is_walk-more, later_place, walk_small, walk_on, live_cases, live_back, live_legal, has_middle}
pub use Rattle.break_rules.proofs.Steps.{has_next, from_next}
pub use Rattle.break_rules.specs.Breaks.{is_live, is_legal, legal_lists, is_lunch}
pub use Rattle.break_rules.specs.Lists.{Has}
pub use Rattle.break_rules.specs.Live.{place_of}
pub use Rattle.break_rules.specs.Ranges.{IsRule}
pub use Rattle.break_rules.specs.Walk.{nexts_of, spot_of, end_of_all, may_follow, is_walk, bits_of}
pub use Rattle.break_rules.specs.declared.Break.{Break}
pub use Rattle.break_rules.specs.declared.Rule.{Rule}
pub use Rattle.break_graph.specs.Building.{AreDrafted, IsNodeOf, IsMarked, AreMarked, number_at, AreBelow, LeadBelow, edge_to, edges_by, node_if, node_by, AreReached}
pub use Rattle.break_graph.specs.Flat.{nodes_from, AreFlat, begin_at}
pub use Rattle.break_graph.specs.Graph.{node_at, StandsAt, IsGraph, live_nexts}
pub use Rattle.break_graph.specs.declared.Edge.{Edge}
pub use Rattle.break_graph.specs.declared.FlatNode.{FlatNode}
pub use Rattle.break_graph.specs.declared.Node.{Node}
