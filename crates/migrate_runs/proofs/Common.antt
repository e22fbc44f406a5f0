-- The names that most proofs of this crate cite, passed on from one place. Declares nothing.
pub use Rattle.std.proofs.Common.{◌≡◌, ◌⊎◌, inl, inr, ℕ, ◌+◌, ◌≤◌, List, length, refl, sym, ◌∙◌, ap, subst, arith, ◌<◌, [], ◌++◌, map, take, get_or, length-append, Vec, Global, ⊎_elim, ℤ, ◌∷◌, rules, string_bytes}
pub use Rattle.std.proofs.lemmas.List.{take_all, length-map}
pub use Rattle.std.specs.List.{AllZip, flat_map}
pub use Rattle.std.specs.Prelude.{Option, None, Some, Result, Ok, Err, IfOk, IfErr, OnOk, IfSome, OnSome}
pub use Rattle.gated_journal.specs.Format.{spelled_in, StoodFor, IsUnfinishedOr, StandsFor, framed, gated, mark_of, spelled}
pub use Rattle.gated_journal.specs.declared.TheConstants.{JOURNAL_MAX}
pub use Rattle.instance_json.specs.Canonical.{canonical_text}
pub use Rattle.plan_base.proofs.Moments.{started, told_all, weaker, then_run}
pub use Rattle.plan_base.specs.Disk.{HoldsThroughout, IsSynced, OnlyLooks}
pub use Rattle.post_codec.specs.Batches.{SpellPosts}
pub use Rattle.post_codec.specs.Spelling.{Spells, cuts_bytes, post_bytes, prices_bytes, slot_bytes, slots_bytes, spelling, spelling_by, twos_complement, u16_bytes, u32_bytes}
unfoldable pub use Rattle.post_codec.specs.Spelling.{price_bytes, u64_bytes}
pub use Rattle.post_codec.specs.declared.post.Post.{Post}
pub use Rattle.post_codec.specs.declared.price_width.PriceWidth.TheVariants.{Eight, Five}
pub use Rattle.recovery.specs.Migrating.{SpellSame}
pub use Rattle.shift_instance.specs.Problem.{Problem}
pub use Rattle.migrate_runs.specs.Migrate.{ended_by, HasNoInstance, HeadFails, IsCarried, IsInstance, OldBook, OldCause, OldFails, unread_by, CanMigrate, EndsEarly, Explains, HasFiles, IsDone, IsEarlierOrSame, IsOldBook, IsSameBook, Met, NewFails, SaysPosts, IsEarlierOr, IsUnfinishedOrSame}
pub use Rattle.migrate_runs.specs.declared.status.MigrateStatus.{MigrateStatus}
pub use Rattle.migrate_runs.specs.declared.status.MigrateStatus.TheVariants.{Migrated, Usage, WriteFault, DiskFault, NoMemory, Old, Target}
