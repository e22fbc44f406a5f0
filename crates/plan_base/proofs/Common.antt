-- The names that most proofs of this crate cite, passed on from one place. Declares nothing.
pub use Rattle.std.proofs.Common.{inl, inr, ⊎_elim, ℕ, List, refl, ◌∙◌, subst, arith, ◌≡◌, zero, suc, ◌+◌, [], ◌∷◌, ◌++◌, length, take, drop, true, sym, ap, length-append, length-take, length-drop, reverse, Vec, ◌<◌, ◌≤◌, append_assoc, ◌-◌}
pub use Rattle.std.proofs.lemmas.List.{length-replicate, reverse-append, take_all, append-nil, drop-drop, take-append-drop, length-take-le}
pub use Rattle.std.specs.Io.KnownBytes.{Consumes, Appends, IsAtEnd, Keeps}
pub use Rattle.std.specs.Prelude.{Option, None, Some, OnSome, replicate, IfSome, Result, Ok, Err, OnErr}
pub use Rattle.plan_base.specs.Disk.{HoldsThroughout, OnlyLooks, overwritten, WritesPart, CutsPart, StepsFrom, AddsMoment, ReadsAt}
pub use Rattle.plan_base.specs.Replay.{acted, content, images_after, image_of, fits, all_fit, masked, mask_of, painted, image_since, mask_kept}
pub use Rattle.plan_base.specs.ReplayLaws.{whole_write, whole_cut, le_true, both, reads_image}
pub use Rattle.plan_base.specs.Streams.{MemSourceView, LosesFront}
pub use Rattle.plan_base.specs.declared.disk_event.DiskAct.TheVariants.{Write, Shorten, Sync}
pub use Rattle.plan_base.specs.declared.disk_event.DiskEvent.{DiskEvent}
