use Rattle.search_book.proofs.Common.{rules, ◌≡◌, ◌+◌, ◌++◌, ◌∷◌, [], List, ℕ, ap, subst, sym, ◌∙◌, arith, length, length-append, OnSome, Rose, JournalView, IsSettled, LogView, flight_of}
use Rattle.search_book.proofs.Adds.{Each, faulted, acknowledged}
use Rattle.search_book.proofs.Sizes.{few_records}
use Rattle.search_book.proofs.Telling.{tells_on}
use Rattle.search_book.proofs.record_log.RecordLog.add.Goals as goal

pub invariant_of-self : goal.invariant_of-self
invariant_of-self g c =
    let b = c.self.inside in
    let K = g.D.Disk in
    let none : flight_of b.in_flight ≡ [] = ap (λ (v : LogView g.row.D.Denot). v.in_flight) c.self.view_is ∙ c.requires.running in
    let running = c.self.invariant.running none in
    let safe = subst (λ (f : List (List ℕ)). OnSome (K.reads b.disk) (Each K.calls K.images_since K.images g.met.D.Disk.only_now b.journal.limit b.journal.head (b.journal.records ++ f) b.disk b.opened.value b.opening b.added)) none c.self.invariant.lasts in
    let counted : length b.journal.records ≡ b.opening + b.added = c.self.invariant.counted in
    let settled = subst (λ (v : JournalView). IsSettled v (K.reads c.put.new.disk) (K.images c.put.new.disk)) c.in-Ok.ensures.ok c.in-Ok.ensures.settled in
    let after = acknowledged K.calls K.images_since K.images g.met.D.Disk.only_now b.journal c.deref.result.now b.disk c.put.new.disk b.opened.value b.opening b.added running.time counted
    (K.reads b.disk) (K.reads c.put.new.disk) c.in-Ok.ensures.telling safe c.in-Ok.ensures.any_moment c.in-Ok.ensures.four settled in
    record {
      running = λ _. record { settled = c.in-Ok.ensures.settled; time = omega (arith, c.in-Ok.ensures.four, running.time) };
      counted = omega (arith, ap (λ (v : JournalView). length v.records) c.in-Ok.ensures.ok, length-append b.journal.records (c.deref.result.now ∷ []), counted);
      early = c.self.invariant.early;
      few = omega (arith, few_records b.journal.head b.journal.records, c.in-Ok.ensures.cause, counted, ap (λ (v : JournalView). v.limit) c.in-Ok.ensures.ok);
      telling = tells_on (K.reads b.opened.value) (K.reads b.disk) (K.reads c.put.new.disk) c.self.invariant.telling c.in-Ok.ensures.telling;
      later = omega (arith, c.in-Ok.ensures.faults, c.self.invariant.later);
      cause = λ shut. absurd (shut none);
      moment = omega (arith, c.in-Ok.ensures.four, running.time);
      most = omega (arith, c.in-Ok.ensures.four, running.time);
      small = omega (arith, c.self.invariant.small, ap (λ (v : JournalView). v.limit) c.in-Ok.ensures.ok);
      lasts =
          subst (λ (v : JournalView). OnSome (K.reads c.put.new.disk) (Each K.calls K.images_since K.images g.met.D.Disk.only_now v.limit v.head (v.records ++ flight_of b.in_flight) c.put.new.disk b.opened.value b.opening (b.added + 1))) (sym c.in-Ok.ensures.ok)
          (subst (λ (f : List (List ℕ)). OnSome (K.reads c.put.new.disk) (Each K.calls K.images_since K.images g.met.D.Disk.only_now b.journal.limit b.journal.head ((b.journal.records ++ c.deref.result.now ∷ []) ++ f) c.put.new.disk b.opened.value b.opening (b.added + 1))) (sym none) after);
    }

pub invariant_of-self-in-Err-DiskFault : goal.invariant_of-self-in-Err-DiskFault
invariant_of-self-in-Err-DiskFault g c =
    let b = c.self.inside in
    let K = g.D.Disk in
    let none : flight_of b.in_flight ≡ [] = ap (λ (v : LogView g.row.D.Denot). v.in_flight) c.self.view_is ∙ c.requires.running in
    let running = c.self.invariant.running none in
    let safe = subst (λ (f : List (List ℕ)). OnSome (K.reads b.disk) (Each K.calls K.images_since K.images g.met.D.Disk.only_now b.journal.limit b.journal.head (b.journal.records ++ f) b.disk b.opened.value b.opening b.added)) none c.self.invariant.lasts in
    let counted : length b.journal.records ≡ b.opening + b.added = c.self.invariant.counted in
    let record_is : c.deref.result.now ≡ c.of.result.value.items = c.deref.ensures.value ∙ sym (ap (λ (v : Rattle.std.specs.Prelude.Vec ℕ Rattle.std.specs.declared.alloc.Global.Global). v.items) c.of.ensures) in
    let after = faulted K.calls K.images_since K.images g.met.D.Disk.only_now b.journal c.deref.result.now b.disk c.put.new.disk b.opened.value b.opening b.added running.time counted
    (K.reads b.disk) (K.reads c.put.new.disk) c.in-Err-DiskFault.ensures.telling safe c.in-Err-DiskFault.ensures.any_moment in
    record {
      running = λ shut. absurd (omega (arith, ap length shut));
      counted = ap (λ (v : JournalView). length v.records) c.in-Err-DiskFault.ensures.err ∙ counted;
      early = c.self.invariant.early;
      few = omega (arith, c.self.invariant.few, ap (λ (v : JournalView). v.limit) c.in-Err-DiskFault.ensures.err);
      telling = tells_on (K.reads b.opened.value) (K.reads b.disk) (K.reads c.put.new.disk) c.self.invariant.telling c.in-Err-DiskFault.ensures.telling;
      later = omega (arith, c.in-Err-DiskFault.ensures.faults, c.self.invariant.later);
      cause = λ _. let rose : Rose (K.faults b.disk) (K.faults c.put.new.disk) = search rules in omega (arith, rose, c.self.invariant.later);
      moment = omega (arith, c.in-Err-DiskFault.ensures.least, running.time);
      most = omega (arith, c.in-Err-DiskFault.ensures.most, running.time);
      small = omega (arith, c.self.invariant.small, ap (λ (v : JournalView). v.limit) c.in-Err-DiskFault.ensures.err);
      lasts =
          subst (λ (v : JournalView). OnSome (K.reads c.put.new.disk) (Each K.calls K.images_since K.images g.met.D.Disk.only_now v.limit v.head (v.records ++ c.of.result.value.items ∷ []) c.put.new.disk b.opened.value b.opening b.added)) (sym c.in-Err-DiskFault.ensures.err)
          (subst (λ (f : List ℕ). OnSome (K.reads c.put.new.disk) (Each K.calls K.images_since K.images g.met.D.Disk.only_now b.journal.limit b.journal.head (b.journal.records ++ f ∷ []) c.put.new.disk b.opened.value b.opening b.added)) record_is after);
    }
