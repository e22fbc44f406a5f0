use Rattle.report_grafts.proofs.Pinned.{pins_fix}
use Rattle.report_grafts.proofs.laws.pins_fix_heads.Goals as goal

pub returns : goal.returns
returns c = pins_fix
