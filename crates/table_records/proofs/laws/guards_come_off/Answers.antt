use Rattle.table_records.proofs.Guards.{come_off}
use Rattle.table_records.proofs.laws.guards_come_off.Goals as goal

pub returns : goal.returns
returns c = come_off
