use Rattle.plan_tables.proofs.Common.{◌≡◌, fold, length, max, take}
use Rattle.plan_tables.proofs.duty_lines.longest_name.Given as goal

abbrev pub invariant-loop-kind : goal.invariant-loop-kind
invariant-loop-kind l = l.longest ≡ fold (λ most kind. max most (length kind.name)) 0 (take l.kind-index l.kind-items)
