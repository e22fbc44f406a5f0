use Rattle.search_book.proofs.Common.{◌≡◌, ◌+◌, ◌≤◌, ◌++◌, ◌∷◌, [], List, ap, sym, ◌∙◌, subst, arith, None, Some, Vec, Global, All, Rose, Post, CanSpellPost, Spells, bytes_of, book_after, Makes, DiskFault, Full, makes_fit, makes_fold, PostLogView, batches_told, bytes_used, posts_told, IsPostLogInside, RecordFails, Records, AddFails, LogView}
use Rattle.gated_journal.specs.declared.fault.JournalFault.TheVariants.{DiskFault as DiskFails, Full as IsFull}
use Rattle.search_book.proofs.Commits.{as_told, ends_at, fault_inside, full_inside, log_added, log_failed, log_same, makes_back, makes_forth, makes_in, none_flies, ok_inside, state_added, view_of}
use Rattle.search_book.proofs.Outcomes.{filled, recorded, stopped}
use Rattle.search_book.proofs.post_log.PostLog.commit.Goals as goal

pub record_of-requires-clause-fit : goal.record_of-requires-clause-fit
record_of-requires-clause-fit g c =
    let old = c.args.self.now in
    subst (All CanSpellPost) (sym c.deref.ensures.value) (makes_fit old.instance old.book c.args.posts.items c.args.values.now c.requires.makes.0 c.requires.makes.1)

pub add-requires-clause-running : goal.add-requires-clause-running
add-requires-clause-running g c =
    let b = c.self.inside in
    let opens : b.shut ≡ None = ap (λ (v : PostLogView g.row.D.Denot). v.shut) c.self.view_is ∙ c.requires.open in
    ap (λ (l : LogView g.row.D.Denot). l.in_flight) c.record_of.ensures.log
    ∙ none_flies b.log b.state b.batched.opening b.batched.batches (batches_told b.in_flight) (posts_told b.unfit) b.shut c.self.invariant opens

pub append_all-requires-clause-makes : goal.append_all-requires-clause-makes
append_all-requires-clause-makes g c =
    let b = c.self.inside in
    let m = c.requires.makes in (
      m.0,
      makes_forth b.state c.record_of.new.state c.args.posts.items c.args.values.now m.0 c.record_of.ensures.state
          (makes_in b.log b.state b.batched.opening b.batched.batches (batches_told b.in_flight) (posts_told b.unfit) b.shut c.args.self.now c.args.posts.items c.args.values.now m.0 c.self.view_is m.1),
    )

-- ---- the record is in the journal
pub invariant_of-self-in-Ok : goal.invariant_of-self-in-Ok
invariant_of-self-in-Ok g c =
    let b = c.self.inside in
    let i = c.self.invariant in
    let old = c.args.self.now in
    let posts = c.args.posts.items in
    let values = c.args.values.now in
    let bytes = c.in_ok-bytes.bytes.items in
    let mid = c.record_of.new.log in
    let log2 = c.add.new.self in
    let s2 = c.append_all.new.self in
    let first = b.batched.opening in
    let batches = b.batched.batches in
    let flight = batches_told b.in_flight in
    let unfit = posts_told b.unfit in
    let opens : b.shut ≡ None = ap (λ (v : PostLogView g.row.D.Denot). v.shut) c.self.view_is ∙ c.requires.open in
    let same = c.record_of.ensures.log in
    let room = c.record_of.ensures.state in
    let is = log_added b.log mid log2 bytes same c.in-Ok.ensures.ok in
    let states = state_added b.state c.record_of.new.state s2 posts _ room c.append_all.ensures.rest in
    let spells : Spells bytes posts = subst (Spells bytes) c.deref.ensures.value c.in_ok-bytes.ensures.spells in
    let made = makes_back b.state c.record_of.new.state posts values s2.book room c.append_all.ensures.makes in
    let folds : book_after b.state.instance b.state.book posts ≡ Some s2.book = makes_fold b.state.instance b.state.book posts values s2.book made in
    let most : mid.limit ≡ b.log.limit = ap (λ (l : LogView g.row.D.Denot). l.limit) same in
    let within : bytes_used b.log.head b.log.records + bytes_of posts ≤ b.log.limit = omega (arith, c.in-Ok.ensures.cause, ends_at b.log mid posts bytes same c.requires.some spells, most) in
    let more : c.with-self-inside.result.batches ≡ batches ++ posts ∷ [] = c.with-self-inside.ensures.1 ∙ ap (λ (l : List Post). batches ++ l ∷ []) c.deref-in-Ok.ensures.value in
    as_told (IsPostLogInside log2) log2 s2 first c.with-self-inside.result.opening (batches ++ posts ∷ []) c.with-self-inside.result.batches flight unfit b.shut c.with-self-inside.ensures.0 more
    (ok_inside b.log b.state first batches flight unfit b.shut i opens log2 s2 bytes posts is states c.requires.some spells folds within)

pub returns-in-Ok-clause-ok : goal.returns-in-Ok-clause-ok
returns-in-Ok-clause-ok g c =
    let b = c.self.inside in
    let posts = c.args.posts.items in
    let bytes = c.in_ok-bytes.bytes.items in
    let mid = c.record_of.new.log in
    let log2 = c.add.new.self in
    let s2 = c.append_all.new.self in
    let first = b.batched.opening in
    let batches = b.batched.batches in
    let flight = batches_told b.in_flight in
    let unfit = posts_told b.unfit in
    let same = c.record_of.ensures.log in
    let room = c.record_of.ensures.state in
    let is = log_added b.log mid log2 bytes same c.in-Ok.ensures.ok in
    let states = state_added b.state c.record_of.new.state s2 posts _ room c.append_all.ensures.rest in
    let spells : Spells bytes posts = subst (Spells bytes) c.deref.ensures.value c.in_ok-bytes.ensures.spells in
    let most : mid.limit ≡ b.log.limit = ap (λ (l : LogView g.row.D.Denot). l.limit) same in
    let within : bytes_used b.log.head b.log.records + bytes_of posts ≤ b.log.limit = omega (arith, c.in-Ok.ensures.cause, ends_at b.log mid posts bytes same c.requires.some spells, most) in
    let four : g.D.Disk.calls log2.disk ≡ g.D.Disk.calls b.log.disk + 4 = omega (arith, c.in-Ok.ensures.four, ap (λ (l : LogView g.row.D.Denot). g.D.Disk.calls l.disk) same) in
    let more : c.with-self-inside.result.batches ≡ batches ++ posts ∷ [] = c.with-self-inside.ensures.1 ∙ ap (λ (l : List Post). batches ++ l ∷ []) c.deref-in-Ok.ensures.value in
    as_told (λ (v : PostLogView g.row.D.Denot). Records g.D.Disk.calls c.args.self.now v posts s2.book) log2 s2 first c.with-self-inside.result.opening (batches ++ posts ∷ []) c.with-self-inside.result.batches flight unfit b.shut c.with-self-inside.ensures.0 more
    (recorded b.log b.state first batches flight unfit b.shut c.args.self.now c.self.view_is g.D.Disk.calls log2 s2 bytes posts is states c.requires.some spells within four)

pub returns-in-Ok-clause-makes : goal.returns-in-Ok-clause-makes
returns-in-Ok-clause-makes g c =
    let b = c.self.inside in
    let room = c.record_of.ensures.state in
    let made = makes_back b.state c.record_of.new.state c.args.posts.items c.args.values.now c.append_all.new.self.book room c.append_all.ensures.makes in
    subst (λ (v : PostLogView g.row.D.Denot). Makes v.instance v.book c.args.posts.items c.args.values.now c.append_all.new.self.book) c.self.view_is made

-- ---- the disk failed
pub invariant_of-self-in-Err-DiskFault : goal.invariant_of-self-in-Err-DiskFault
invariant_of-self-in-Err-DiskFault g c =
    let b = c.self.inside in
    let old = c.args.self.now in
    let posts = c.args.posts.items in
    let values = c.args.values.now in
    let bytes = c.in_ok-bytes.bytes.items in
    let mid = c.record_of.new.log in
    let log2 = c.add.new.self in
    let s2 = c.record_of.new.state in
    let first = b.batched.opening in
    let batches = b.batched.batches in
    let flight = batches_told b.in_flight in
    let unfit = posts_told b.unfit in
    let opens : b.shut ≡ None = ap (λ (v : PostLogView g.row.D.Denot). v.shut) c.self.view_is ∙ c.requires.open in
    let same = c.record_of.ensures.log in
    let room = c.record_of.ensures.state in
    let fails = subst (AddFails g.D.Disk.faults mid log2 bytes) c.in-Err-DiskFault.field-0-is c.in-Err-DiskFault.ensures.cause in
    let is = log_failed b.log mid log2 bytes same fails.0 in
    let spells : Spells bytes posts = subst (Spells bytes) c.deref.ensures.value c.in_ok-bytes.ensures.spells in
    let m = c.requires.makes in
    let makes = makes_in b.log b.state first batches flight unfit b.shut old posts values m.0 c.self.view_is m.1 in
    let folds : book_after b.state.instance b.state.book posts ≡ Some m.0 = makes_fold b.state.instance b.state.book posts values m.0 makes in
    subst (λ (l : List Post). IsPostLogInside log2 (view_of log2 s2 first batches (l ∷ []) unfit (Some DiskFault))) (sym (ap (λ (v : Vec Post Global). v.items) c.of.ensures))
    (fault_inside b.log b.state first batches flight unfit b.shut c.self.invariant opens log2 s2 bytes posts m.0 is room spells folds)

pub returns-in-Err-DiskFault-clause-err : goal.returns-in-Err-DiskFault-clause-err
returns-in-Err-DiskFault-clause-err g c =
    let b = c.self.inside in
    let faults = g.D.Disk.faults in
    let posts = c.args.posts.items in
    let bytes = c.in_ok-bytes.bytes.items in
    let mid = c.record_of.new.log in
    let log2 = c.add.new.self in
    let s2 = c.record_of.new.state in
    let first = b.batched.opening in
    let batches = b.batched.batches in
    let flight = batches_told b.in_flight in
    let unfit = posts_told b.unfit in
    let same = c.record_of.ensures.log in
    let room = c.record_of.ensures.state in
    let fails = subst (AddFails g.D.Disk.faults mid log2 bytes) c.in-Err-DiskFault.field-0-is c.in-Err-DiskFault.ensures.cause in
    let is = log_failed b.log mid log2 bytes same fails.0 in
    let spells : Spells bytes posts = subst (Spells bytes) c.deref.ensures.value c.in_ok-bytes.ensures.spells in
    let most : mid.limit ≡ b.log.limit = ap (λ (l : LogView g.row.D.Denot). l.limit) same in
    let within : bytes_used b.log.head b.log.records + bytes_of posts ≤ b.log.limit = omega (arith, fails.1, ends_at b.log mid posts bytes same c.requires.some spells, most) in
    let rose : Rose (faults b.log.disk) (faults log2.disk) = subst (λ (d : g.row.D.Denot). Rose (faults d) (faults log2.disk)) (ap (λ (l : LogView g.row.D.Denot). l.disk) same) fails.2 in
    subst (λ (l : List Post). RecordFails faults c.args.self.now (view_of log2 s2 first batches (l ∷ []) unfit (Some DiskFault)) posts DiskFails) (sym (ap (λ (v : Vec Post Global). v.items) c.of.ensures))
    (stopped b.log b.state first batches flight unfit b.shut c.args.self.now c.self.view_is faults log2 s2 bytes posts is room within rose)

-- ---- the journal is full
pub invariant_of-self-in-Err-Full : goal.invariant_of-self-in-Err-Full
invariant_of-self-in-Err-Full g c =
    let b = c.self.inside in
    let mid = c.record_of.new.log in
    let log2 = c.add.new.self in
    let s2 = c.record_of.new.state in
    let posts = c.args.posts.items in
    let first = b.batched.opening in
    let batches = b.batched.batches in
    let flight = batches_told b.in_flight in
    let end = c.in-Err-Full.end in
    let limit = c.in-Err-Full.limit in
    let opens : b.shut ≡ None = ap (λ (v : PostLogView g.row.D.Denot). v.shut) c.self.view_is ∙ c.requires.open in
    let same = c.record_of.ensures.log in
    let room = c.record_of.ensures.state in
    let fails = subst (AddFails g.D.Disk.faults mid log2 c.in_ok-bytes.bytes.items) c.in-Err-Full.field-0-is c.in-Err-Full.ensures.cause in
    let most : mid.limit ≡ b.log.limit = ap (λ (l : LogView g.row.D.Denot). l.limit) same in
    subst (λ (l : List Post). IsPostLogInside log2 (view_of log2 s2 first batches flight l (Some (Full end limit)))) (sym (ap (λ (v : Vec Post Global). v.items) c.of-in-Err-Full.ensures))
    (full_inside b.log b.state first batches flight (posts_told b.unfit) b.shut c.self.invariant opens log2 s2 posts end limit (log_same b.log mid log2 same fails.0) room (fails.2 ∙ most) fails.3)

pub returns-in-Err-Full-clause-err : goal.returns-in-Err-Full-clause-err
returns-in-Err-Full-clause-err g c =
    let b = c.self.inside in
    let faults = g.D.Disk.faults in
    let mid = c.record_of.new.log in
    let log2 = c.add.new.self in
    let s2 = c.record_of.new.state in
    let posts = c.args.posts.items in
    let bytes = c.in_ok-bytes.bytes.items in
    let first = b.batched.opening in
    let batches = b.batched.batches in
    let flight = batches_told b.in_flight in
    let end = c.in-Err-Full.end in
    let limit = c.in-Err-Full.limit in
    let same = c.record_of.ensures.log in
    let room = c.record_of.ensures.state in
    let fails = subst (AddFails g.D.Disk.faults mid log2 c.in_ok-bytes.bytes.items) c.in-Err-Full.field-0-is c.in-Err-Full.ensures.cause in
    let most : mid.limit ≡ b.log.limit = ap (λ (l : LogView g.row.D.Denot). l.limit) same in
    let spells : Spells bytes posts = subst (Spells bytes) c.deref.ensures.value c.in_ok-bytes.ensures.spells in
    subst (λ (l : List Post). RecordFails faults c.args.self.now (view_of log2 s2 first batches flight l (Some (Full end limit))) posts (IsFull end limit)) (sym (ap (λ (v : Vec Post Global). v.items) c.of-in-Err-Full.ensures))
    (filled b.log b.state first batches flight (posts_told b.unfit) b.shut c.args.self.now c.self.view_is faults log2 s2 posts end limit (log_same b.log mid log2 same fails.0) room (fails.1 ∙ ends_at b.log mid posts bytes same c.requires.some spells) (fails.2 ∙ most) fails.3)
