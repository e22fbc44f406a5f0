-- The names that most proofs of this crate cite, passed on from one place. Declares nothing.
pub use Rattle.std.proofs.Common.{◌≡◌, ⊎_elim, ℕ, ◌+◌, ◌*◌, ◌≤◌, List, [], ◌∷◌, ◌++◌, length, sym, ap, subst, arith, length-append, ◌<◌, ◌^◌, refl, ◌∙◌, Option, None, Some, zero, suc, ◌==◌, Bool, false, length-set, set, ◌≢◌, max, true, cond, ◌&&◌, not, nat_le, nat_lt, inl, inr, map, ◌||◌, ◌⊎◌, replicate, eq-eqb, ◌-◌, take, drop, Vec, Global, rules}
pub use Rattle.std.proofs.lemmas.Bool.{cases_lt, false≢true, and_parts, ltb-true, le-leb, lt-leb, ltb-false, not-true, and_from, cases_Bool, cases_eq, eqb-true, lt-ltb, or_cases, or_left, or_right}
pub use Rattle.std.proofs.lemmas.List.{append-nil, append_assoc, take_all, take-append-le, take-append-drop}
pub use Rattle.std.proofs.lemmas.List.Concat.{flat_map-append}
pub use Rattle.std.proofs.lemmas.Result.{err_from_is_err_and}
pub use Rattle.std.proofs.raw_atomic.Walks.{proved}
pub use Rattle.std.specs.List.{AllZip, flat_map, list_all, list_any, filter}
pub use Rattle.std.specs.Option.{option_and_then, option_map_or}
pub use Rattle.std.specs.Prelude.{OnSome, IsSome, is_some, slice_set, slice_get, Err, IfOk, IsSomeAnd, Ok, Result, IfSome, MatchOption, All, ◌↔◌, IsTrue}
pub use base.Fml.{ftrue}
pub use denote.Builtin.{SliceRefOf, RefOf}
pub use denote.Exit.{yes}
pub use denote.Param.Send.{recorded_send, sendable, struct_send, view_send, IsSend, owning_send, param_send, arg_send}
pub use denote.RattleType.{RattleType, Valss, owns}
pub use denote.Signature.{plain, types_at}
pub use denote.Slice.{shr_slice_vals, shr_slice_Tells}
pub use denote.Steps.{nothing}
pub use denote.Struct.Struct.{within}
pub use denote.Triple.Entry.{alive}
pub use denote.Triple.Walked.{Stays, walk_of, says, stay_dropped, Goes-dropped, ends_at}
pub use mir.Syntax.{named}
pub use mir.Val.{Val, vstruct, vnil}
pub use types.ByLocal.{alloc_all, pass_all, free_all, look_at, sets}
pub use types.Kit.{‵, raw, ◌⊛◌, ◌$◌, ◌∵◌, !, qed, done, keep, move, split, fjoin, fpack, feq_i, suffices}
pub use types.Part.{agg}
pub use types.Run.{enter, no_more, returns}
pub use Rattle.gated_journal.proofs.Once.{stands_once, stands_journal, stands_new, stands_whole}
pub use Rattle.gated_journal.specs.Faults.{OpenFails}
pub use Rattle.gated_journal.specs.Format.{StandsFor, IsBeforeOrAfter, end_after, gated, fresh, spelled}
pub use Rattle.gated_journal.specs.View.{JournalView, IsSettled, IsStored}
pub use Rattle.gated_journal.specs.declared.fault.JournalFault.{JournalFault}
pub use Rattle.gated_journal.specs.declared.fault.JournalFault.TheVariants.{OldVersion, NoMemory, NotAJournal, Damaged}
pub use Rattle.head_splits.specs.Cuts.{DifferAt, low, high}
pub use Rattle.head_splits.specs.Nodes.{Node, child, with_floor, with_split, settled_floor}
pub use Rattle.head_splits.specs.declared.Class.{Class}
pub use Rattle.instance_json.specs.Canonical.{canonical_text}
pub use Rattle.open_nodes.specs.Listed.{has_node, is_before, is_listed, with_entry, Entry, OpenView, Rises}
pub use Rattle.plan_base.specs.Causes.{Rose}
pub use Rattle.plan_base.specs.Disk.{TellsAlike, HoldsThroughout}
pub use Rattle.post_codec.proofs.Batches.{zip_right, none_spelled, posts_once, zip_length, zip_take, zip_append, zip_left}
pub use Rattle.post_codec.proofs.Formats.{one_list}
pub use Rattle.post_codec.specs.Batches.{joined, SpellPosts}
pub use Rattle.post_codec.specs.Spelling.{Spells, breaks_bytes, class_bytes, post_bytes, prices_bytes, row_bytes, rows_bytes, spelling, u64_bytes, EachSpellsOnce, CanSpellPost}
unfoldable pub use Rattle.post_codec.specs.Spelling.{u16_bytes, u32_bytes}
pub use Rattle.post_codec.specs.declared.post.Post.{Post}
pub use Rattle.post_codec.specs.declared.post.Post.TheVariants.{Plan, Priced, Split, Settled}
pub use Rattle.post_codec.specs.declared.price_width.PriceWidth.TheVariants.{Five}
pub use Rattle.recovery.specs.Records.{MakeBook}
pub use Rattle.recovery.specs.Refusals.{Refuses}
pub use Rattle.search_core.proofs.Appends.{makes_fold, makes_fit}
pub use Rattle.search_core.proofs.Outlines.{book_is}
pub use Rattle.search_core.proofs.Runs.{book_after-append, front_folds, slice_get_front, slice_get_other, hand_set, hand_some, no_hand, taken_apart, emptied_apart}
pub use Rattle.search_core.proofs.Sound.{at_node_some, bind_some, cond_some}
pub use Rattle.search_core.specs.Board.{bytes_of, batches_of, book_at, floor_of_node, leaves_open, posts_at, records_of, BoardView, CommitRefuses, Commits, HasPosts, HoldsStep, is_free, IsNext, NoneIsFree}
pub use Rattle.search_core.specs.Book.{Book, book_after, book_of, opening, is_node_and, is_open, divided, is_better, priced, settled, step, is_finished}
pub use Rattle.search_core.specs.Calls.{full_hands}
pub use Rattle.search_core.specs.Core.{HoldsApart, hand, is_node, empty_hands, AreApart}
pub use Rattle.search_core.specs.Drafting.{Makes, Drafts, LeavesOpen}
pub use Rattle.search_core.specs.Kept.{cuts_in}
pub use Rattle.search_core.specs.State.{StateView, state_of, book_or_opening}
pub use Rattle.search_core.specs.Steps.{after_step, book_then, is_cheaper, posts_of, close_posts, plan_of, plan_posts, where_open, Fits}
pub use Rattle.search_core.specs.declared.board.Shutting.{Shutting}
pub use Rattle.search_core.specs.declared.board.Shutting.TheVariants.{DiskFault, Full}
pub use Rattle.search_core.specs.declared.step_posts.Close.TheVariants.{ByPrice}
pub use Rattle.search_core.specs.declared.step_posts.StepPosts.{StepPosts}
pub use Rattle.shift_instance.specs.Problem.{Problem}
pub use Rattle.search_book.specs.Committing.{commit_fault_of, step_posts, MayCommit, MayNot, RecordsStep, StepFails}
pub use Rattle.search_book.specs.Head.{of_journal_fault, HeadCause, IsDamagedFile, HasOtherHead, KeepsHead}
pub use Rattle.search_book.specs.Keeping.{HoldsBatches, IsKeptPosts, ShutOf, IsPostLog}
pub use Rattle.search_book.specs.Listing.{Follows, with_open, HoldsOpen, ListsAllFree, ListsBelow, ListsFree, ListsOnlyFree}
pub use Rattle.search_book.specs.Opening.{IsFound, IsOpenedFrom, IsBegun}
pub use Rattle.search_book.specs.PostLog.{PostLogView}
pub use Rattle.search_book.specs.Posts.{batches_told, posts_told}
unfoldable pub use Rattle.search_book.specs.Posts.{bytes_used}
pub use Rattle.search_book.specs.Prefix.{HoldsPrefix}
pub use Rattle.search_book.specs.Recorded.{IsPostLogInside, ShutIn, RecordFails, Records, IsRecorded}
pub use Rattle.search_book.specs.Records.{LogView, AddFails, journal_of, flight_of}
pub use Rattle.search_book.specs.Search.{board_at, KeepsSearch}
pub use Rattle.search_book.specs.contracts.batched.Batched.{the_row, the_type}
