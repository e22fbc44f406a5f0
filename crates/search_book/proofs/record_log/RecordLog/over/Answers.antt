use Rattle.search_book.proofs.Common.{refl, ap, arith, subst, sym, TellsAlike}
use Rattle.search_book.proofs.Adds.{started}
use Rattle.search_book.proofs.Telling.{tells_like_itself}
use Rattle.search_book.proofs.record_log.RecordLog.over.Goals as goal

pub invariant_of-result : goal.invariant_of-result
invariant_of-result g c = record {
  running = λ none. record { settled = c.requires.settled; time = omega (arith, ap g.D.Disk.calls c.of-opened.ensures) };
  counted = omega (arith, c.requires.opening);
  early = omega (arith, c.requires.count, ap g.D.Disk.calls c.of-opened.ensures);
  few = omega arith;
  telling = subst (λ (d : g.row.D.Denot). TellsAlike (g.D.Disk.reads d) (g.D.Disk.reads c.args.disk)) (sym c.of-opened.ensures) (tells_like_itself (g.D.Disk.reads c.args.disk));
  later = omega (arith, ap g.D.Disk.faults c.of-opened.ensures);
  cause = λ shut. absurd (shut refl);
  moment = omega (arith, ap g.D.Disk.calls c.of-opened.ensures);
  most = omega (arith, ap g.D.Disk.calls c.of-opened.ensures);
  small = c.requires.small;
  lasts = started g.D.Disk.calls g.D.Disk.images_since g.D.Disk.images g.met.D.Disk.only_now c.args.journal c.args.disk c.of-opened.result.value c.args.opening (g.D.Disk.reads c.args.disk) c.of-opened.ensures c.requires.opening c.requires.settled;
}
