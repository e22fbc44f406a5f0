-- The names that most proofs of this crate cite, passed on from one place. Declares nothing.
pub use Rattle.std.proofs.Common.{◌≡◌, ◌∙◌, ◌<◌, ℕ, Bool, true, false, cond, ◌&&◌, ◌==◌, not, List, refl, sym, ap, subst, nat_le, nat_lt, Option, Some, None, ◌+◌, ◌-◌, ◌≤◌, [], ◌∷◌, ◌++◌, length, arith, inl, inr, set, eq-eqb, zero, suc, max, ◌⊎◌, ◌*◌, ◌^◌, ◌||◌, get_or, replicate, map, sum_by, fold, min, take, ◌/◌, ◌%◌, ◌≢◌, drop, ℤ, pos, negsuc, neg_ℤ, ◌≤ℤ◌, rules, reverse}
pub use Rattle.std.proofs.Math.Nat.{pow-suc, pow-le-pow_right, mul-le-mul}
pub use Rattle.std.proofs.lemmas.Bool.{and_from, lt-ltb, leb-false, and_parts, not-true, false≢true, ltb-true, ltb-false, le-ltb, cases_eq, eqb-true, or_cases, or_from, or_left, or_right, cases_lt, le-leb, leb-true, cond_both, cases_Bool, and_cases}
pub use Rattle.std.proofs.lemmas.List.{append-nil, append_assoc, length-append, length-set, length-replicate, map-set, map-append, take-append-drop, take-take, length-take}
pub use Rattle.std.proofs.lemmas.List.Elements.{All-from_recursion, recursion_from_All}
pub use Rattle.std.proofs.lemmas.List.Sums.{sum_by-cons, sum_by-append, sum_by-set}
pub use Rattle.std.proofs.lemmas.Option.{slice_get-get_or, slice_get_within, slice_get-map, get_or_from_slice_get}
pub use Rattle.std.specs.List.{AllByRecursion, list_all, list_any, zip}
pub use Rattle.std.specs.Option.{option_map, option_map_or, option_or, option_and_then, is_some}
pub use Rattle.std.specs.Prelude.{IsSome, IsSomeAnd, slice_get, All, is_none, Err, IfOk, IfSome, IsTrue, MatchOption, Ok, Result, slice_set, Any, int_le, vec_len}
pub use Rattle.break_rules.proofs.Lists.{Has-flat_map, all_at, any_none}
pub use Rattle.break_rules.specs.Lists.{Has}
pub use Rattle.dual_bound.specs.Proved.{IsProved}
pub use Rattle.dual_bound.specs.Settling.{IsPlan, IsSettledNode, Settling}
pub use Rattle.head_splits.proofs.Nodes.{Has-get_or, Has-place, floor_at, floor_from, Has-slice_get, NodesSound, root_sound, priced_sound, settled_sound, split_sound, nodes_are}
pub use Rattle.head_splits.proofs.Priced.{le_from_test}
pub use Rattle.head_splits.proofs.Splits.{span_left, span_right, high_most}
pub use Rattle.head_splits.specs.Bound.{are_prices, bound_of, is_nil, is_slot_price, is_cut_price}
pub use Rattle.head_splits.specs.Cuts.{low, high, whole_class, meets}
pub use Rattle.head_splits.specs.Nodes.{Node, settled_floor, child, with_floor, with_split}
pub use Rattle.head_splits.specs.Settled.{is_live_class, is_settled, is_empty, settled_plan, span, split_class}
pub use Rattle.head_splits.specs.declared.Class.{Class}
pub use Rattle.head_splits.specs.declared.Cut.{Cut}
pub use Rattle.head_splits.specs.declared.Prices.{Prices}
pub use Rattle.head_splits.specs.declared.Side.TheVariants.{AtMost, AtLeast}
pub use Rattle.post_codec.specs.Spelling.{CanSpellPost, CanSpellPrices, CountsFitRow, CountsFitRows, FitsSlot, FitsCut}
pub use Rattle.post_codec.specs.declared.post.Post.{Post}
pub use Rattle.post_codec.specs.declared.post.Post.TheVariants.{Plan, Priced, Split, Settled}
pub use Rattle.rota_cost.proofs.RowLaw.{legal_from_none, none_from_legal}
pub use Rattle.rota_cost.specs.Costed.{Costing, IsCosted}
pub use Rattle.rota_cost.specs.RowFaults.{row_fault}
pub use Rattle.shift_instance.proofs.Rotas.{slice_get_below, legal_duties}
pub use Rattle.shift_instance.specs.Problem.{Problem, shift_list}
pub use Rattle.shift_instance.specs.Rota.{cost, rota_of, are_legal_rows, is_legal_rota, is_shift_and, is_list_of, duty_of}
pub use Rattle.shift_instance.specs.Valid.{IsValid}
pub use Rattle.shift_instance.specs.declared.Duty.{Duty}
pub use Rattle.shift_instance.specs.declared.Row.{Row}
pub use Rattle.shift_instance.specs.declared.TheConstants.{TOP}
pub use Rattle.search_core.specs.Board.{BoardView, book_at, core_of, is_free, posts_at, yields, Commits, CommitRefuses, IsSoundBoard, TakeMakes, floor_of_node, leaves_open, batches_of, bytes_of}
pub use Rattle.search_core.specs.Book.{Book, is_better, step, book_after, book_of, is_node_and, is_open, opening, priced, divided, settled, IsSound, floor_of, is_finished, IsLeastFloor, at_node}
pub use Rattle.search_core.specs.Calls.{gives_node, full_hands, steps_enough, AreCalls, IsCall, IsFresh}
pub use Rattle.search_core.specs.Core.{hand, happens, is_node, is_of, may_commit, may_take, HoldsApart, Core, start, run, empty_hands, opened, IsFront, IsSoundCore, AreApart}
pub use Rattle.search_core.specs.Drafting.{Makes, best_with, floor_with, Drafts, IsAfter, IsDraft, LeavesOpen}
pub use Rattle.search_core.specs.Faults.{plan_fault, Refuses, step_fault, Steps}
pub use Rattle.search_core.specs.Kept.{cuts_in, rows_in, part_of, best_of, IsPart, IsKept}
pub use Rattle.search_core.specs.Outline.{OutlineView, unsplit_node, split_node, acted}
pub use Rattle.search_core.specs.State.{number_at, StateView, value_of, state_of}
unfoldable pub use Rattle.search_core.specs.State.{book_or_opening}
pub use Rattle.search_core.specs.Steps.{after_step, book_then, close_posts, plan_of, plan_posts, posts_of, where_open, followed_by, Fits, FitsClose}
pub use Rattle.search_core.specs.declared.board.CommitFault.{CommitFault}
pub use Rattle.search_core.specs.declared.board.CommitFault.TheVariants.{DiskFault, Full, NotHeld, Shut, NotClosing, OtherCuts}
pub use Rattle.search_core.specs.declared.board.Kept.{Kept}
pub use Rattle.search_core.specs.declared.board.Taken.{Taken}
pub use Rattle.search_core.specs.declared.board.Taken.TheVariants.{Closed, Finished, Halted, Spent, Idle}
pub use Rattle.search_core.specs.declared.drafting.StepDraft.{StepDraft}
pub use Rattle.search_core.specs.declared.event.Event.{Event}
pub use Rattle.search_core.specs.declared.event.Event.TheVariants.{Take, Commit, Yield, Crash}
pub use Rattle.search_core.specs.declared.fault.StepFault.{StepFault}
pub use Rattle.search_core.specs.declared.fault.StepFault.TheVariants.{NotLegal, WrongCost, NotBetter, NoNode, IsSplit, NotOpen, NotLive, OutOfRange, NotSettled, Price, NoMemory}
pub use Rattle.search_core.specs.declared.outline.NodeState.{NodeState}
pub use Rattle.search_core.specs.declared.step_posts.Close.{Close}
pub use Rattle.search_core.specs.declared.step_posts.Close.TheVariants.{ByPrice}
pub use Rattle.search_core.specs.declared.step_posts.StepPosts.{StepPosts}
