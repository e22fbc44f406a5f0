-- The plain rule. Source: this project's profile.
use Rattle.std.specs.Prelude.{◌≡◌, []}
use Rattle.break_rules.specs.declared.Rule.{Rule}

-- the rule of a shift type without breaks: the whole shift is one work period
abbrev pub plain_rule : Rule
plain_rule = record { lead = 0; tail = 0; work_min = 1; work_max = 288; long_work = 288; long_rest = 1; size_min = 1; size_max = 48; totals = []; lunches = []; resettle = 0 }

-- the distances from both ends and the lengths of work are those of the plain rule
abbrev pub IsPlainTimes : Rule → Type 0
IsPlainTimes rule = (rule.lead ≡ 0) × (rule.tail ≡ 0) × (rule.work_min ≡ 1) × (rule.work_max ≡ 288) × (rule.long_work ≡ 288) × (rule.long_rest ≡ 1)
