-- The names that most proofs of this crate cite, passed on from one place. Declares nothing.
pub use Rattle.std.proofs.Common.{◌≡◌, inl, inr, ℕ, zero, suc, true, List, [], ◌∷◌, All, sym, ap, ◌∙◌, arith, append-nil, ◌<◌, ◌≤◌, Bool, false, cond, ◌&&◌, not, ◌++◌, refl, subst, min, max, nat_lt, Option, Some, None, eq-eqb, ◌⊎◌, ◌+◌, length, get_or, remove, set, replicate, ◌/◌, nat_le, map, take, drop, append_assoc, sum_by, ◌*◌, ◌^◌, ◌-◌, vec_len, slice_index_or, slice_set, rules}
pub use Rattle.std.proofs.Math.Logic.{∥∥₁_elim, ∥∥₁_map}
pub use Rattle.std.proofs.Props.{props}
pub use Rattle.std.proofs.lemmas.Bool.{and_parts, and_from, cases_Bool, ltb-true, ltb-false, le-ltb, cases_lt, leb-true, false≢true, or_from}
pub use Rattle.std.proofs.lemmas.List.{length-map, length-append}
pub use Rattle.std.proofs.lemmas.Option.{get_or_from_slice_get, slice_get_within, same_Some}
pub use Rattle.std.specs.List.{list_all, list_any}
pub use Rattle.std.specs.Prelude.{Result, Ok, Err, IfErr, IfOk, slice_get, IfSome, count_by, IsTrue, IsSomeAnd, MatchOption, IsFalse}
pub use Rattle.std.specs.Vec.{vec_capacity}
pub use Rattle.std.specs.declared.snapshot.Snapshot.{Snapshot}
pub use Rattle.advice.specs.declared.advice.Splitting.{Splitting}
pub use Rattle.advice.specs.declared.adviser.Told.{Told}
pub use Rattle.board_lock.proofs.Turned.{clear_of, turns_keep, same_merely, turns_are_calls, no_turns}
pub use Rattle.board_lock.specs.Passes.{root_of, IsOutside}
pub use Rattle.board_lock.specs.Roots.{root_at}
pub use Rattle.board_lock.specs.Turns.{AreEmptyFrom, AreTurns, plans_since, prices_since}
pub use Rattle.board_lock.specs.declared.roots.BoardRoot.{BoardRoot}
pub use Rattle.break_rules.specs.Causes.{first_cause}
pub use Rattle.dual_bound.specs.Faults.{price_causes, Answers}
pub use Rattle.dual_bound.specs.Fixing.{IsFixing}
pub use Rattle.dual_bound.specs.Proved.{IsProved, Proving}
pub use Rattle.dual_bound.specs.declared.settling.Fixing.TheVariants.{Open}
pub use Rattle.head_splits.specs.Bound.{are_prices, bound_of}
pub use Rattle.head_splits.specs.Nodes.{Node, with_floor}
pub use Rattle.head_splits.specs.Settled.{is_live_class, is_settled}
pub use Rattle.head_splits.specs.declared.Cut.{Cut}
pub use Rattle.head_splits.specs.declared.Prices.{Prices}
pub use Rattle.post_codec.specs.declared.post.Post.{Post}
pub use Rattle.post_codec.specs.declared.post.Post.TheVariants.{Plan, Priced, Split, Settled}
pub use Rattle.rota_cost.specs.Costed.{Costing, IsCosted}
pub use Rattle.search_core.proofs.Closed.{at_set, node_not, some_node, then_is, closed_now, is_closed, is_there, node_is, step_keeps}
pub use Rattle.search_core.proofs.Counted.{calls_enough, calls_exact, calls_within, nodes_within, is_used, calls_count, Counts}
pub use Rattle.search_core.proofs.Counts.{passing, passing_less, passing_more, passing_most}
pub use Rattle.search_core.proofs.Outlines.{book_is}
pub use Rattle.search_core.proofs.Runs.{book_after-append, hand_set, front_folds}
pub use Rattle.search_core.specs.Board.{BoardView, Commits, TakeMakes, floor_of_node, leaves_open, IsSoundBoard, book_at, posts_at, NoneIsFree, yields, HoldsStep}
pub use Rattle.search_core.specs.Book.{Book, is_better, is_node_and, is_open, priced, book_after, book_of, is_finished}
pub use Rattle.search_core.specs.Calls.{full_hands, steps_enough, IsFresh}
pub use Rattle.search_core.specs.Core.{is_of, empty_hands, hand, IsFront, is_node}
pub use Rattle.search_core.specs.Kept.{cuts_in}
pub use Rattle.search_core.specs.Steps.{after_step, book_then, plan_posts, posts_of, where_open, Fits, close_posts, followed_by, plan_of, FitsClose}
pub use Rattle.search_core.specs.declared.board.Kept.{Kept}
pub use Rattle.search_core.specs.declared.board.Taken.TheVariants.{Closed, Halted, Idle}
pub use Rattle.search_core.specs.declared.step_posts.Close.TheVariants.{ByPrice}
pub use Rattle.search_core.specs.declared.step_posts.StepPosts.{StepPosts}
pub use Rattle.shift_instance.specs.Problem.{Problem}
pub use Rattle.turn_lock.specs.Seats.{new_seat, new_seats, SeatView}
pub use Rattle.worker_gate.specs.Decision.{cost_to_reach, is_split, lawful_split, zero_prices, IsDecision}
unfoldable pub use Rattle.worker_gate.specs.Decision.{lawful_prices}
pub use Rattle.worker_gate.specs.Passing.{worker_of, AppendsOf, FollowOn, IsPassAt}
pub use Rattle.worker_gate.specs.Runs.{is_plan_or_prices, news_of, IsSameSearch, plans_and_prices_since, AreRounds, IsRound, committed, is_whole, EndMakes, IsCutOff, IsEnded, IsIdle, IsRun, MakesStep, RunEnds, RunMakes, RunTells, AreToldRounds, RoundTells}
pub use Rattle.worker_gate.specs.Runs.AreRounds.{none, one_more}
pub use Rattle.worker_gate.specs.Turned.{HasBadge, HasTurns}
pub use Rattle.worker_gate.specs.Workers.{LeavesStep, IsNews, IsToldLast, WorkersEnd, KnowsBoard}
pub use Rattle.worker_gate.specs.declared.run.RunEnd.{RunEnd}
pub use Rattle.worker_gate.specs.declared.run.RunEnd.TheVariants.{Spent, NoMemory, Finished, Full, DiskFault, Stopped}
