use Rattle.gated_journal.proofs.Common.{◌≡◌, ◌+◌, ◌≤◌, ℕ, List, [], ◌∷◌, ◌++◌, length, sym, ◌∙◌, ap, subst, arith, IfSome, option_map, overwritten, WritesPart, HoldsThroughout, spelled, end_after, JournalView}
use Rattle.gated_journal.proofs.Spelling.{length-spelled-push}
use Rattle.gated_journal.proofs.Puts.{synced, first_moments, both_moments, stored}
use Rattle.gated_journal.proofs.journal.Journal.put.Goals as goal

pub returns-in_err-write_synced-clause-any_moment : goal.returns-in_err-write_synced-clause-any_moment
returns-in_err-write_synced-clause-any_moment g c =
    let j = c.args.self.now in
    let at_gate = subst (λ (v : JournalView). c.self.inside.gate ≡ length (spelled v.head v.records)) c.self.view_is c.self.invariant.at_gate in
    let limit_is : j.limit ≡ c.self.inside.limit = ap (λ (v : JournalView). v.limit) (sym c.self.view_is) in
    let fits : end_after j.head j.records (length c.args.bytes.now) ≤ j.limit = omega arith in
    let joined = c.deref.ensures.value ∙ c.join.ensures.joined in
    first_moments g.D.Disk.calls g.D.Disk.images_since g.D.Disk.images j c.args.bytes.now c.self.inside.gate at_gate fits c.args.disk.now c.write_synced.new.disk (g.D.Disk.reads c.args.disk.now) c.requires.settled
    (subst (λ (l : List ℕ). IfSome (g.D.Disk.reads c.args.disk.now) (λ f. HoldsThroughout g.D.Disk.calls g.D.Disk.images_since c.args.disk.now c.write_synced.new.disk (WritesPart (c.self.inside.gate + 1) (length l) f))) joined (c.write_synced.ensures.any_moment (synced j (g.D.Disk.reads c.args.disk.now) (g.D.Disk.images c.args.disk.now) c.requires.settled)))

pub returns-in_err-write_synced-2-clause-any_moment : goal.returns-in_err-write_synced-2-clause-any_moment
returns-in_err-write_synced-2-clause-any_moment g c =
    let j = c.args.self.now in
    let at_gate = subst (λ (v : JournalView). c.self.inside.gate ≡ length (spelled v.head v.records)) c.self.view_is c.self.invariant.at_gate in
    let limit_is : j.limit ≡ c.self.inside.limit = ap (λ (v : JournalView). v.limit) (sym c.self.view_is) in
    let fits : end_after j.head j.records (length c.args.bytes.now) ≤ j.limit = omega arith in
    let joined = c.deref.ensures.value ∙ c.join.ensures.joined in
    both_moments g.D.Disk.calls g.D.Disk.images_since g.D.Disk.images j c.args.bytes.now c.self.inside.gate at_gate fits c.args.disk.now c.write_synced.new.disk c.write_synced-2.new.disk (g.D.Disk.reads c.args.disk.now) (g.D.Disk.reads c.write_synced.new.disk) c.requires.settled
    (c.in_ok-write_synced.ensures.written ∙ ap (λ (l : List ℕ). option_map (overwritten (c.self.inside.gate + 1) l) (g.D.Disk.reads c.args.disk.now)) joined)
    (subst (λ (l : List ℕ). IfSome (g.D.Disk.reads c.args.disk.now) (λ f. HoldsThroughout g.D.Disk.calls g.D.Disk.images_since c.args.disk.now c.write_synced.new.disk (WritesPart (c.self.inside.gate + 1) (length l) f))) joined (c.write_synced.ensures.any_moment (synced j (g.D.Disk.reads c.args.disk.now) (g.D.Disk.images c.args.disk.now) c.requires.settled)))
    (c.write_synced-2.ensures.any_moment c.in_ok-write_synced.ensures.durable)

pub returns-clause-any_moment : goal.returns-clause-any_moment
returns-clause-any_moment g c =
    let j = c.args.self.now in
    let at_gate = subst (λ (v : JournalView). c.self.inside.gate ≡ length (spelled v.head v.records)) c.self.view_is c.self.invariant.at_gate in
    let limit_is : j.limit ≡ c.self.inside.limit = ap (λ (v : JournalView). v.limit) (sym c.self.view_is) in
    let fits : end_after j.head j.records (length c.args.bytes.now) ≤ j.limit = omega arith in
    let joined = c.deref.ensures.value ∙ c.join.ensures.joined in
    both_moments g.D.Disk.calls g.D.Disk.images_since g.D.Disk.images j c.args.bytes.now c.self.inside.gate at_gate fits c.args.disk.now c.write_synced.new.disk c.write_synced-2.new.disk (g.D.Disk.reads c.args.disk.now) (g.D.Disk.reads c.write_synced.new.disk) c.requires.settled
    (c.in_ok-write_synced.ensures.written ∙ ap (λ (l : List ℕ). option_map (overwritten (c.self.inside.gate + 1) l) (g.D.Disk.reads c.args.disk.now)) joined)
    (subst (λ (l : List ℕ). IfSome (g.D.Disk.reads c.args.disk.now) (λ f. HoldsThroughout g.D.Disk.calls g.D.Disk.images_since c.args.disk.now c.write_synced.new.disk (WritesPart (c.self.inside.gate + 1) (length l) f))) joined (c.write_synced.ensures.any_moment (synced j (g.D.Disk.reads c.args.disk.now) (g.D.Disk.images c.args.disk.now) c.requires.settled)))
    (c.write_synced-2.ensures.any_moment c.in_ok-write_synced.ensures.durable)

pub invariant_of-self-2 : goal.invariant_of-self-2
invariant_of-self-2 g c =
    let made = c.with-self-inside.ensures in
    let old = c.self.inside.told in
    record {
      at_gate = omega (arith, ap (λ (v : List ℕ × List (List ℕ)). length (spelled v.0 v.1)) (λ i. (made.0 i, made.1 i)), length-spelled-push old.head old.records c.args.bytes.now, c.self.invariant.at_gate);
      within = omega (arith, c.if-end-from.false, c.from.ensures);
      room = omega (arith, c.join.ensures.capacity, c.self.invariant.room);
    }

pub returns-clause-settled : goal.returns-clause-settled
returns-clause-settled g c =
    let j = c.args.self.now in
    let at_gate = subst (λ (v : JournalView). c.self.inside.gate ≡ length (spelled v.head v.records)) c.self.view_is c.self.invariant.at_gate in
    let limit_is : j.limit ≡ c.self.inside.limit = ap (λ (v : JournalView). v.limit) (sym c.self.view_is) in
    let fits : end_after j.head j.records (length c.args.bytes.now) ≤ j.limit = omega arith in
    let joined = c.deref.ensures.value ∙ c.join.ensures.joined in
    let made = c.with-self-inside.ensures in
    let view : record { head = c.with-self-inside.result.head; records = c.with-self-inside.result.records; limit = c.self.inside.limit; spare = c.self.inside.spare } ≡ record j { records = j.records ++ c.args.bytes.now ∷ [] } =
    (λ i. record { head = made.0 i; records = made.1 i; limit = c.self.inside.limit; spare = c.self.inside.spare }) ∙ ap (λ (v : JournalView). record v { records = v.records ++ c.args.bytes.now ∷ [] }) c.self.view_is in
    stored g.D.Disk.calls g.D.Disk.images_since g.D.Disk.images j c.args.bytes.now c.self.inside.gate at_gate fits c.args.disk.now c.write_synced-2.new.disk (g.D.Disk.reads c.args.disk.now) (g.D.Disk.reads c.write_synced.new.disk) (g.D.Disk.reads c.write_synced-2.new.disk) c.requires.settled
    (c.in_ok-write_synced.ensures.written ∙ ap (λ (l : List ℕ). option_map (overwritten (c.self.inside.gate + 1) l) (g.D.Disk.reads c.args.disk.now)) joined)
    c.in_ok-write_synced-2.ensures.written c.in_ok-write_synced-2.ensures.durable _ view
