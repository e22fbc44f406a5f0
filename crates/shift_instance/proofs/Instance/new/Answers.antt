use Rattle.shift_instance.proofs.Common.{sym}
use Rattle.shift_instance.proofs.Judged.{answered}
use Rattle.shift_instance.proofs.Instance.new.Goals as goal

pub returns-in-Some-clause-fault : goal.returns-in-Some-clause-fault
returns-in-Some-clause-fault c = answered c.args.parts c.in-Some.fault (sym c.in-Some.ensures)
