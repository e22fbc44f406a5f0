-- Why no certificate came of a source.
use Rattle.std.specs.Prelude.{⊤, ℕ, List, Option, IfSome}
use Rattle.plan_base.specs.Causes.{Rose}
use Rattle.check_runs.specs.Check.{WhyUnjudged}
use Rattle.join_runs.specs.declared.reading.Unreported.{Unreported}
use Rattle.join_runs.specs.declared.reading.Unreported.TheVariants.{Bundle, ReadFault, NoMemory}

-- why no certificate came of a source: what it had left, and its counts of faults before and after
abbrev pub ReportUnread : Option (List ℕ) → ℕ → ℕ → Unreported → Type 0
ReportUnread left before now (Bundle why) = IfSome left (λ bytes. WhyUnjudged bytes why)
ReportUnread left before now ReadFault = Rose before now
ReportUnread left before now NoMemory = ⊤
