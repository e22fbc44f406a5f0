use Rattle.gated_journal.proofs.Common.{◌≡◌, length, ap, arith, false, looked, looks_more}
use Rattle.std.proofs.lemmas.Result.{err_from_is_err_and}
use Rattle.gated_journal.proofs.Reading.{none_read, more_read, all_read, read_to_end}
use Rattle.gated_journal.proofs.FaultLaws.{fails_later}
use Rattle.gated_journal.proofs.reads.read_front.Goals as goal

pub pieces-init : goal.pieces-init
pieces-init g c = record {
  told = none_read (g.D.Disk.reads c.args.disk.now) c.new-bytes.result.items c.new-bytes.ensures.items;
  size = omega (arith, ap length c.new-bytes.ensures.items);
  room = omega (arith, c.in_ok-room.ensures, ap length c.deref_mut-chunk.ensures.value);
  looks = looked g.D.Disk.calls g.D.Disk.images_since g.D.Disk.reads g.D.Disk.images g.met.D.Disk.only_now c.args.disk.now;
  count = omega arith;
  faults = omega arith;
}

pub pieces-preserved : goal.pieces-preserved
pieces-preserved g c = record {
  told = more_read (g.D.Disk.reads c.args.disk.now) (g.D.Disk.reads c.pieces.disk) c.pieces.bytes.items c.read_more.new.bytes.items c.pieces.invariant.looks.same c.pieces.invariant.told c.in_ok-read_more.ensures.bytes;
  size = c.in_ok-read_more.ensures.bound;
  room = omega arith;
  looks = looks_more g.D.Disk.calls g.D.Disk.images_since g.D.Disk.reads g.D.Disk.images g.met.D.Disk.only_now c.args.disk.now c.pieces.disk c.read_more.new.disk c.pieces.invariant.looks c.read_more.ensures.looks;
  count = omega (arith, c.in_ok-read_more.ensures.grows c.if-not-branch.false, c.read_more.ensures.count, c.pieces.invariant.count);
  faults = omega arith;
}

pub returns-in_err-read_more-clause-looks : goal.returns-in_err-read_more-clause-looks
returns-in_err-read_more-clause-looks g c =
    looks_more g.D.Disk.calls g.D.Disk.images_since g.D.Disk.reads g.D.Disk.images g.met.D.Disk.only_now c.args.disk.now c.pieces.disk c.read_more.new.disk c.pieces.invariant.looks c.read_more.ensures.looks

pub returns-then-not-branch-clause-looks : goal.returns-then-not-branch-clause-looks
returns-then-not-branch-clause-looks g c =
    looks_more g.D.Disk.calls g.D.Disk.images_since g.D.Disk.reads g.D.Disk.images g.met.D.Disk.only_now c.args.disk.now c.pieces.disk c.read_more.new.disk c.pieces.invariant.looks c.read_more.ensures.looks

pub returns-in_err-read_more-clause-cause : goal.returns-in_err-read_more-clause-cause
returns-in_err-read_more-clause-cause g c =
    let p = err_from_is_err_and c.from_residual-in_err-read_more.result c.from_residual-in_err-read_more.ensures.1 in
    rw (p.1, p.2) (fails_later _ _ _ c.pieces.invariant.faults c.in_err-read_more.field-0.0 c.in_err-read_more.ensures.cause)

pub returns-then-not-branch-clause-bytes : goal.returns-then-not-branch-clause-bytes
returns-then-not-branch-clause-bytes g c =
    let none : c.in_ok-read_more.field-0 ≡ false = grind arith in
    read_to_end (g.D.Disk.reads c.args.disk.now) (g.D.Disk.reads c.pieces.disk) c.pieces.bytes.items c.read_more.new.bytes.items c.args.len c.pieces.invariant.looks.same c.pieces.invariant.size c.pieces.invariant.told (c.in_ok-read_more.ensures.end none) (c.in_ok-read_more.ensures.same none)

pub returns-clause-bytes : goal.returns-clause-bytes
returns-clause-bytes g c =
    let size : length c.pieces.bytes.items ≡ c.args.len = omega (arith, c.pieces.invariant.size) in
    all_read (g.D.Disk.reads c.args.disk.now) c.pieces.bytes.items c.args.len size c.pieces.invariant.told
