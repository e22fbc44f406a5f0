-- The names that most proofs of this crate cite, passed on from one place. Declares nothing.
pub use Rattle.std.proofs.Common.{◌≡◌, ℕ, ◌+◌, ◌≤◌, List, [], ◌∷◌, ◌++◌, length, get_or, take, drop, sym, ◌∙◌, ap, arith, append_assoc, length-append, take-append-drop, subst, ◌≢◌, inl, inr, ⊎_elim, ◌<◌, ◌^◌, refl, ◌⊎◌, ◌-◌, map, false}
pub use Rattle.std.proofs.lemmas.Bool.{cases_eq}
pub use Rattle.std.proofs.lemmas.Grind.{common_steps}
pub use Rattle.std.proofs.lemmas.List.{take_at, drop_at, drop_more, drop-drop, append-nil, drop_all, take-take, length-take-le, take_all, drop-take, length-take, take_rest}
pub use Rattle.std.proofs.raw_atomic.Walks.{proved}
pub use Rattle.std.specs.Option.{option_map}
pub use Rattle.std.specs.Prelude.{Option, None, Some, IfSome, OnSome, sum_by}
pub use base.Fml.{ftrue}
pub use denote.Builtin.{u8, SliceRefOf, RefOf}
pub use denote.Exit.{yes}
pub use denote.RattleType.{Valss, owns}
pub use denote.Signature.{plain, types_at}
pub use denote.Slice.{shr_slice_vals, shr_slice_Tells}
pub use denote.Steps.{nothing}
pub use denote.Struct.Struct.{within}
pub use denote.Triple.Entry.{alive}
pub use denote.Triple.Walked.{Stays, walk_of, says, stay_dropped, Goes-dropped, ends_at}
pub use mir.Syntax.{named}
pub use mir.Val.{Val, vstruct, vnil}
pub use types.ByLocal.{alloc_all, pass_all, free_all, look_at, sets}
pub use types.Kit.{‵, raw, ◌⊛◌, ◌$◌, ◌∵◌, !, qed, done, keep, move, split, fjoin, fpack, feq_i, suffices}
pub use types.Part.{agg}
pub use types.Run.{enter, no_more, returns}
pub use Rattle.plan_base.proofs.Moments.{weaker, then_run, looked, looks_more}
pub use Rattle.plan_base.specs.Disk.{overwritten, WritesPart, IsSynced, HoldsThroughout, ReadsAt, OnlyLooks}
pub use Rattle.gated_journal.specs.Cuts.{size_of, IsCut, IsNoneIn, IsNoJournal, IsOldVersion, IsRecordsEnd, IsCutAt, IsMarked, IsUnmarked}
pub use Rattle.gated_journal.specs.Faults.{CreateFails, IsDamagedIn, IsDamagedAt, OpenFails, OpenV1Fails, ReadFails, StartFails}
pub use Rattle.gated_journal.specs.Format.{mark, framed, fresh, StandsFor, IsNoLonger, mark_of, gated, spelled_in, StandsIn, IsUnfinished, spelled, IsBeforeOrAfter, end_after, IsUnfinishedOr}
pub use Rattle.gated_journal.specs.View.{JournalView, IsSettled, IsStored}
pub use Rattle.gated_journal.specs.contracts.told.ToldRecords.{the_row, the_type}
pub use Rattle.gated_journal.specs.declared.fault.JournalFault.{JournalFault}
pub use Rattle.gated_journal.specs.declared.fault.JournalFault.TheVariants.{DiskFault, NotAJournal, Damaged, Full, NoMemory, OldVersion}
