-- The names that most proofs of this crate cite, passed on from one place. Declares nothing.
pub use Rattle.std.proofs.Common.{◌≡◌, inl, inr, ℕ, zero, suc, ◌<◌, ◌≤◌, ◌^◌, min, max, Bool, true, false, cond, ◌&&◌, ◌==◌, not, List, [], ◌∷◌, length, refl, sym, ap, subst, ◌∙◌, arith, fold, nat_lt, nat_le, Some, None, ◌+◌, ◌-◌, take, get_or, Option, ◌≢◌, ◌*◌, ◌++◌, drop, All, map, sum_by, rules, vec_len, option_map, string_bytes, Global, IfOk}
pub use Rattle.std.proofs.lemmas.Bool.{and_parts, and_from, lt-ltb, le-leb, eqb-true, ltb-true, eq-eqb, not-true, false≢true, cases_Bool, cases_lt}
pub use Rattle.std.proofs.lemmas.List.{get_or-map, length-map}
pub use Rattle.std.proofs.lemmas.List.Sums.{sum-map, sum_by-cons}
pub use Rattle.std.specs.Io.KnownBytes.{Appends}
pub use Rattle.std.specs.List.{list_all, AllByRecursion}
pub use Rattle.std.specs.Option.{option_map_or, is_some}
pub use Rattle.std.specs.Prelude.{slice_get, zip, option_and_then, IfSome, IsSome, ◌⊎◌, Result, Ok, Err, unwrap_or, OnSome, IsFalse, IsTrue, count_by}
pub use Rattle.std.specs.Vec.{vec_capacity}
pub use Rattle.board_lock.specs.Turns.{plans_since, prices_since, AreTurns, is_prices, AreEmptyFrom}
pub use Rattle.certificate.specs.Accepted.{is_split, node_line, node_of, nodes_after, nodes_of, least_floor, is_bound, is_plan, is_accepted}
pub use Rattle.certificate.specs.Departing.{Spells}
pub use Rattle.certificate.specs.History.{lines_of}
pub use Rattle.certificate.specs.Text.{Agrees, AgreesWith, HasText}
pub use Rattle.certificate.specs.declared.Cert.{Cert}
pub use Rattle.certificate.specs.declared.proof_lines.Line.{Line}
pub use Rattle.gated_journal.specs.declared.TheConstants.{JOURNAL_MAX}
pub use Rattle.head_splits.specs.Nodes.{Node, with_floor, with_split}
pub use Rattle.plan_base.specs.Causes.{Rose}
pub use Rattle.plan_base.specs.Streams.{AppendsPart}
pub use Rattle.post_codec.specs.Batches.{joined}
pub use Rattle.post_codec.specs.declared.post.Post.{Post}
pub use Rattle.post_codec.specs.declared.post.Post.TheVariants.{Plan, Priced, Split, Settled}
pub use Rattle.search_book.specs.Keeping.{IsKeptPosts, IsRunningPosts, ShutOf, HoldsBatches, PostsLast}
pub use Rattle.search_book.specs.Opening.{IsBegun, IsOpenedFrom}
pub use Rattle.search_book.specs.Posts.{IsJournalOf}
pub use Rattle.search_book.specs.Search.{board_of, SearchView}
pub use Rattle.search_core.proofs.Floors.{finished_closed, finished_best}
pub use Rattle.search_core.proofs.Outlines.{book_is}
pub use Rattle.search_core.proofs.Sound.{cond_some, bind_some, at_node_some, fold_sound}
pub use Rattle.search_core.specs.Board.{book_at, BoardView, leaves_open, batches_of, bytes_of, posts_at, Commits, CommitRefuses, HoldsStep, TakeMakes}
pub use Rattle.search_core.specs.Book.{Book, opening, floor_of, is_open, is_better, priced, divided, settled, step, book_after, book_of, is_finished, IsSound, is_node_and}
pub use Rattle.search_core.specs.Calls.{steps_enough, full_hands, IsFresh, IsCall}
pub use Rattle.search_core.specs.Core.{empty_hands, hand}
pub use Rattle.search_core.specs.Kept.{cuts_in}
pub use Rattle.search_core.specs.Steps.{posts_of, close_posts, plan_of, plan_posts, where_open}
pub use Rattle.search_core.specs.declared.board.Origin.{Origin}
pub use Rattle.search_core.specs.declared.step_posts.StepPosts.{StepPosts}
pub use Rattle.shift_instance.specs.Problem.{Problem, slots, shift_list}
pub use Rattle.shift_instance.specs.Rota.{cost, rota_of, is_legal_rota, is_shift_and, are_legal_rows}
pub use Rattle.shift_instance.specs.Valid.{IsValid}
pub use Rattle.solve_words.specs.Asked.{asked}
pub use Rattle.solve_words.specs.Words.{from_number, over_journal, Asked, Asks, IsReadAs, IsWithin}
pub use Rattle.solve_words.specs.declared.command.Method.{Method}
pub use Rattle.worker_gate.specs.Runs.{committed, plans_and_prices_since, IsSameSearch, RunEnds, RunMakes}
pub use Rattle.worker_gate.specs.declared.run.RunEnd.{RunEnd}
pub use Rattle.worker_gate.specs.declared.run.RunEnd.TheVariants.{Finished, Spent}
pub use Rattle.solve_runs.specs.Demo.{demo_text, line_of, AreCommitted, Demonstration, DemoMet, IsNew, IsShown, IsTold, OverMemory, Searches}
pub use Rattle.solve_runs.specs.Ended.{HasEnded, IsLeft, IsRefusal, IsFinished, IsFull, IsSpent, IsStopped}
pub use Rattle.solve_runs.specs.Report.{status_of_book, cert_of, IsUnbeaten, output_of}
pub use Rattle.solve_runs.specs.Run.{status_unread, EndsCommand, EndsDemo, EndsOver, EndsSearch, Explains, IsUnopened, IsUnread, Met, OverDisk, Reports, ReportsPart}
pub use Rattle.solve_runs.specs.Search.{Ends, GoesOn, IsLanded, Told}
pub use Rattle.solve_runs.specs.Searching.{end_of, is_reported, end_unopened, HasNotSearched, SearchEnds, HasSearched, IsSessionOf}
pub use Rattle.solve_runs.specs.Served.{AreTold, ToldMet, AreUntold, Served, Works}
pub use Rattle.solve_runs.specs.Session.{met_of, DiskMet, IsUncalled, Session, IsOnlyJournal, posts_in}
pub use Rattle.solve_runs.specs.Status.{EndsBeforeReading, EndsEarly, status_text}
pub use Rattle.solve_runs.specs.Streams.{SinkMet}
pub use Rattle.solve_runs.specs.Words.{workers_for, workers_unsaid, AsksWorkers, Command, IsCommand, IsPathIn}
pub use Rattle.solve_runs.specs.Writing.{status_at, EndsAs, IsReported, IsReportedPart, Unwritten}
pub use Rattle.solve_runs.specs.declared.searched.SearchEnd.{SearchEnd}
pub use Rattle.solve_runs.specs.declared.searched.SearchEnd.TheVariants.{Stopped, TooFewAdvisers, Refused}
pub use Rattle.solve_runs.specs.declared.status.Status.{Status}
pub use Rattle.solve_runs.specs.declared.status.Status.TheVariants.{Optimal, Budget, Full, Usage, Input, Workers, ReadFault, WriteFault, DiskFault, NoMemory, Journal}
