use Rattle.migrate_runs.proofs.Common.{◌≡◌, ℕ, ◌+◌, map, length, string_bytes, arith, rules, Vec, Global, length-map, HasFiles, Met}
use Rattle.migrate_runs.proofs.Ending.{by_line, is_done, well_by_old}
use Rattle.migrate_runs.proofs.Migrated.{same_later, same_moments}
use Rattle.migrate_runs.proofs.migrating.migrate_run.Goals as goal

pub returns-in-Err-clause-complete : goal.returns-in-Err-clause-complete
returns-in-Err-clause-complete g c =
    let D = g.D.Disk in
    let E = g.E.Disk in
    let K = g.K.Sink in
    let met : Met = record {
      words = map string_bytes c.args.words.now;
      old = record { file = D.reads c.args.old.now; file_after = D.reads c.carry.new.old; faults = (D.faults c.args.old.now, D.faults c.carry.new.old) };
      new = record { file = E.reads c.args.new.now; file_after = E.reads c.args.new.now; faults = (E.faults c.args.new.now, E.faults c.args.new.now) };
      sink = record { held = K.held c.args.out.now; held_after = K.held c.args.out.now; faults = (K.faults c.args.out.now, K.faults c.args.out.now) };
    } in
    well_by_old met c.in-Err.status c.in-Err.ensures.cause c.in-Err.ensures.only

pub returns-in-Ok-put-clause-status : goal.returns-in-Ok-put-clause-status
returns-in-Ok-put-clause-status g c =
    let D = g.D.Disk in
    let E = g.E.Disk in
    let K = g.K.Sink in
    let met : Met = record {
      words = map string_bytes c.args.words.now;
      old = record { file = D.reads c.args.old.now; file_after = D.reads c.carry.new.old; faults = (D.faults c.args.old.now, D.faults c.carry.new.old) };
      new = record { file = E.reads c.args.new.now; file_after = E.reads c.put.new.new; faults = (E.faults c.args.new.now, E.faults c.put.new.new) };
      sink = record { held = K.held c.args.out.now; held_after = K.held c.tell.new.out; faults = (K.faults c.args.out.now, K.faults c.tell.new.out) };
    } in
    let records = map (λ (r : Vec ℕ Global). r.items) c.in-Ok.carried.records.items in
    let many : c.len.result ≡ length records = omega (arith, c.len.ensures, length-map c.in-Ok.carried.records.items (λ (r : Vec ℕ Global). r.items)) in
    let files : HasFiles met = search rules in
    by_line met c.len.result c.in-Ok.carried.posts c.tell.result files
    (is_done met c.in-Ok.carried.head.items records c.len.result c.in-Ok.carried.posts (E.images c.put.new.new) many c.in-Ok.ensures.carried c.in-Ok-put.ensures.empty c.in-Ok-put.ensures.settled)
    c.tell.ensures.said

pub returns-in-Ok-put-clause-any_moment : goal.returns-in-Ok-put-clause-any_moment
returns-in-Ok-put-clause-any_moment g c =
    same_moments g.E.Disk.calls g.E.Disk.images_since (g.E.Disk.images c.args.new.now) c.args.new.now c.put.new.new (g.E.Disk.reads c.args.new.now) (g.D.Disk.reads c.args.old.now)
    c.in-Ok.carried.head.items (map (λ r. r.items) c.in-Ok.carried.records.items) c.in-Ok.carried.posts c.in-Ok.ensures.carried c.put.ensures.any_moment

pub returns-in-Ok-put-clause-later : goal.returns-in-Ok-put-clause-later
returns-in-Ok-put-clause-later g c =
    same_later (g.E.Disk.calls c.args.new.now) (g.E.Disk.calls c.put.new.new) (g.E.Disk.images_since c.put.new.new (g.E.Disk.calls c.args.new.now + 2)) (g.E.Disk.reads c.args.new.now) (g.D.Disk.reads c.args.old.now)
    c.in-Ok.carried.head.items (map (λ r. r.items) c.in-Ok.carried.records.items) c.in-Ok.carried.posts c.in-Ok.ensures.carried c.put.ensures.later

pub returns-clause-any_moment : goal.returns-clause-any_moment
returns-clause-any_moment g c =
    same_moments g.E.Disk.calls g.E.Disk.images_since (g.E.Disk.images c.args.new.now) c.args.new.now c.put.new.new (g.E.Disk.reads c.args.new.now) (g.D.Disk.reads c.args.old.now)
    c.in-Ok.carried.head.items (map (λ r. r.items) c.in-Ok.carried.records.items) c.in-Ok.carried.posts c.in-Ok.ensures.carried c.put.ensures.any_moment

pub returns-clause-later : goal.returns-clause-later
returns-clause-later g c =
    same_later (g.E.Disk.calls c.args.new.now) (g.E.Disk.calls c.put.new.new) (g.E.Disk.images_since c.put.new.new (g.E.Disk.calls c.args.new.now + 2)) (g.E.Disk.reads c.args.new.now) (g.D.Disk.reads c.args.old.now)
    c.in-Ok.carried.head.items (map (λ r. r.items) c.in-Ok.carried.records.items) c.in-Ok.carried.posts c.in-Ok.ensures.carried c.put.ensures.later
