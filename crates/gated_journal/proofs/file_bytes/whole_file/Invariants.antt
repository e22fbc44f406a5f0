use Rattle.gated_journal.proofs.Common.{◌≡◌, ◌++◌, length, map, gated, spelled}
use Rattle.gated_journal.proofs.file_bytes.whole_file.Given as goal

abbrev pub invariant-records : goal.invariant-records
invariant-records l = l.bytes.items ++ gated (map (λ v. v.items) l.rest) ≡ spelled l.head (map (λ v. v.items) l.records)

abbrev pub decreases-records : goal.decreases-records
decreases-records l = length l.rest
