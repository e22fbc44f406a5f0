use Rattle.rota_sheets.proofs.Common.{◌≡◌, rota_of}
use Rattle.rota_sheets.proofs.UsedMore.{used_below}
use Rattle.rota_sheets.proofs.heads.used_by_number.Given as goal

abbrev pub invariant-loop-number : goal.invariant-loop-number
invariant-loop-number l = l.found.items ≡ used_below l.instance (rota_of l.rows) l.number
