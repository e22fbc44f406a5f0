use Rattle.recovery.proofs.Common.{map, take, AllZip, SpellSame}
use Rattle.recovery.proofs.migrating.all_respelled.Given as goal

abbrev pub invariant-loop-record : goal.invariant-loop-record
invariant-loop-record l = AllZip SpellSame (map (λ r. r.items) (take l.record-index l.records)) (map (λ r. r.items) l.new.items)
