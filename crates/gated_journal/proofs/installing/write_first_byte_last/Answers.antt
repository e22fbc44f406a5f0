use Rattle.gated_journal.proofs.Common.{◌-◌, ℕ, length, take, drop, ap, subst, IfSome, HoldsThroughout, WritesPart}
use Rattle.gated_journal.proofs.WholeFile.{zero_moments, rest_moments, first_moments, marked_split}
use Rattle.gated_journal.proofs.installing.write_first_byte_last.Goals as goal

pub returns-clause-any_moment : goal.returns-clause-any_moment
returns-clause-any_moment g c =
    let calls = g.D.Disk.calls in
    let since = g.D.Disk.images_since in
    let reads = g.D.Disk.reads in
    let bytes = c.args.bytes.now in
    let rest_of = take (length bytes - 1) (drop 1 bytes) in
    let split = marked_split bytes c.requires.marked in
    let zero = zero_moments calls since c.args.disk.now bytes rest_of split c.write_synced.new.disk (reads c.args.disk.now) c.requires.empty (c.write_synced.ensures.any_moment c.requires.synced) in
    let rest = rest_moments calls since c.args.disk.now bytes rest_of split c.write_synced.new.disk c.write_synced-2.new.disk (reads c.args.disk.now) (reads c.write_synced.new.disk) c.requires.empty c.in_ok-write_synced.ensures.written zero (c.write_synced-2.ensures.any_moment c.in_ok-write_synced.ensures.durable) in
    first_moments calls since c.args.disk.now bytes rest_of split c.write_synced-2.new.disk c.write_synced-3.new.disk (reads c.args.disk.now) (reads c.write_synced.new.disk) (reads c.write_synced-2.new.disk) c.requires.empty c.in_ok-write_synced.ensures.written c.in_ok-write_synced-2.ensures.written rest
    (subst (λ (n : ℕ). IfSome (reads c.write_synced-2.new.disk) (λ f. HoldsThroughout calls since c.write_synced-2.new.disk c.write_synced-3.new.disk (WritesPart 0 n f))) (ap length c.requires.marked)
    (c.write_synced-3.ensures.any_moment c.in_ok-write_synced-2.ensures.durable))
