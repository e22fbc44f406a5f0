use Rattle.gated_journal.proofs.Common.{length, subst, List, ℕ, ap, arith, IsNoneIn, StartFails}
use Rattle.gated_journal.proofs.Parsing.{total_within}
use Rattle.gated_journal.proofs.Refusing.{refused_whole}
use Rattle.gated_journal.proofs.open_file.read_as.Goals as goal

pub returns-in_default-clause-cause : goal.returns-in_default-clause-cause
returns-in_default-clause-cause g c =
    refused_whole c.args.digit c.args.limit (g.D.Disk.reads c.args.disk.now) _ _ c.in_ok-bytes.bytes.items c.in_ok-bytes.ensures.bytes
    (subst (IsNoneIn c.args.digit) c.deref.ensures.value c.in_default.ensures.none) _
    (subst (λ (l : List ℕ). StartFails c.args.digit l c.refusal.result) c.deref-in_default.ensures.value c.refusal.ensures)

pub returns-clause-total : goal.returns-clause-total
returns-clause-total g c =
    let stands = c.in_ok-records.ensures.stands in
    omega (arith, total_within _ _ _ _ _ stands, c.in_ok-bytes.ensures.short, c.deref-2.ensures.len, ap length c.in_ok-records.ensures.head, ap length c.in_ok-head.ensures.items, ap length c.deref-2.ensures.value)
