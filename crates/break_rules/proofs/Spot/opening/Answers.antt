use Rattle.break_rules.proofs.Common.{sym, ap}
use Rattle.break_rules.proofs.Bits.{bits_none}
use Rattle.break_rules.proofs.Spot.opening.Goals as goal

pub returns : goal.returns
returns c = λ rule. ap (λ n. record { offset = 0; used = 0; lunches = n }) (sym (bits_none rule.lunches))
