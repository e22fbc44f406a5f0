use Rattle.gated_journal.proofs.Common.{ap, arith, length}
use Rattle.gated_journal.proofs.WholeFile.{short_first}
use Rattle.gated_journal.proofs.file_bytes.whole_file.Goals as goal

pub push_framed-requires : goal.push_framed-requires
push_framed-requires c =
    omega (arith, short_first (λ v. v.items) c.records.bytes.items c.records.rest.now c.record-item.result _ c.records.invariant c.in-len1-up.len_at_least c.record-item.is, c.requires, ap length c.deref.ensures.value)
