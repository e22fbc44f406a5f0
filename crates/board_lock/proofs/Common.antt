-- The names that most proofs of this crate cite, passed on from one place. Declares nothing.
pub use Rattle.std.proofs.Common.{◌≡◌, ◌≢◌, ◌⊎◌, inl, inr, ℕ, zero, suc, ◌+◌, ◌-◌, ◌*◌, ◌<◌, ◌≤◌, Bool, true, false, cond, ◌&&◌, ◌==◌, not, List, [], ◌∷◌, ◌++◌, length, drop, get_or, set, refl, sym, ap, ◌∙◌, subst, arith, nat_lt, Option, Some, None, eqb, ⊎_elim, length-set, get_or-set_same, eq-eqb}
pub use Rattle.std.proofs.Math.Logic.{∥∥₁_elim, ∥∥₁_map}
pub use Rattle.std.proofs.lemmas.Bool.{and_parts, cases_Bool, eqb-true, false≢true, ltb-true, and_from}
pub use Rattle.std.proofs.lemmas.List.{append-nil, append_assoc, length-append}
pub use Rattle.atomic_table.specs.Table.{State, Me, Act, keeps, takes, gives, Valid, carried_after, stepped, opening, Allows, Splits, Seen, Final, rest}
pub use Rattle.best_cell.specs.Told.{last_behind, last_of, Follows}
pub use Rattle.post_codec.specs.declared.post.Post.{Post}
pub use Rattle.post_codec.specs.declared.post.Post.TheVariants.{Plan, Priced, Split, Settled}
pub use Rattle.search_core.proofs.Outlines.{book_is}
pub use Rattle.search_core.proofs.Runs.{front_folds, hand_set, hand_some, slice_get_front, slice_get_other, no_hand}
pub use Rattle.search_core.proofs.Sound.{at_node_some, bind_some, cond_some}
pub use Rattle.search_core.specs.Board.{book_at, posts_at, yields, BoardView, Commits, CommitRefuses, IsSoundBoard, TakeMakes}
pub use Rattle.search_core.specs.Book.{book_after, book_of, divided, is_node_and, is_open, priced, settled, step, Book, is_better}
pub use Rattle.search_core.specs.Calls.{full_hands, IsCall, IsFresh, AreCalls}
pub use Rattle.search_core.specs.Calls.IsCall.{a_commit, a_refusal, a_take, a_yield}
pub use Rattle.search_core.specs.Core.{hand, is_node, is_of, HoldsApart, empty_hands, IsFront}
pub use Rattle.search_core.specs.Steps.{book_then, close_posts, followed_by, plan_of, plan_posts, posts_of, where_open, Fits}
pub use Rattle.search_core.specs.declared.board.CommitFault.{CommitFault}
pub use Rattle.search_core.specs.declared.board.CommitFault.TheVariants.{DiskFault, Full, NotHeld, Shut, NotClosing, OtherCuts, NoMemory}
pub use Rattle.search_core.specs.declared.board.Kept.{Kept}
pub use Rattle.search_core.specs.declared.board.Taken.{Taken}
pub use Rattle.search_core.specs.declared.board.Taken.TheVariants.{Closed, Finished, Halted, Spent, Idle, Node}
pub use Rattle.search_core.specs.declared.step_posts.StepPosts.{StepPosts}
pub use Rattle.shift_instance.specs.Problem.{Problem}
pub use Rattle.board_lock.specs.Turns.{is_plan, is_prices, plans_since, prices_since, AreEmptyFrom, AreTurns}
pub use Rattle.board_lock.specs.Turns.AreTurns.{none, one_more}
