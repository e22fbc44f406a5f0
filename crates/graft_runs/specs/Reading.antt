-- Why no certificate came of a source.
use Rattle.std.specs.Prelude.{⊤, ℕ, List, Option, IfSome}
use Rattle.plan_base.specs.Causes.{Rose}
use Rattle.check_runs.specs.Check.{WhyUnjudged}
use Rattle.graft_runs.specs.declared.status.GraftStatus.{GraftStatus}
use Rattle.graft_runs.specs.declared.status.GraftStatus.TheVariants.{Written, Refused, Usage, Input, Bundle, ReadFault, WriteFault, NoMemory}

-- why no certificate came of a source: what it had left, and its counts of faults before and after
abbrev pub ReportUnread : Option (List ℕ) → ℕ → ℕ → GraftStatus → Type 0
ReportUnread left before now (Bundle why) = IfSome left (λ bytes. WhyUnjudged bytes why)
ReportUnread left before now ReadFault = Rose before now
ReportUnread left before now NoMemory = ⊤
ReportUnread left before now Written = ⊥
ReportUnread left before now (Refused why) = ⊥
ReportUnread left before now Usage = ⊥
ReportUnread left before now (Input why) = ⊥
ReportUnread left before now WriteFault = ⊥
