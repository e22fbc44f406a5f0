use Rattle.break_rules.proofs.Common.{◌≡◌, ◌-◌, filter, IsAt, may_follow, breaks_left}
use Rattle.break_rules.proofs.walking.NextBreaks.next_break.Given as goal

abbrev pub invariant-loop-self : goal.invariant-loop-self
invariant-loop-self l = record {
  same : filter (may_follow l.self-inside.rule.now l.self-inside.len l.self-inside.offset l.self-inside.used) (breaks_left l.self-inside.start l.self-inside.size l.self-inside.len) ≡ l.fn.self;
  at : IsAt l.self-inside.rule.now l.self-inside.len l.self-inside.offset l.self-inside.used l.self-inside.stop l.self-inside.latest l.self-inside.longest l.self-inside.start l.self-inside.size;
}

abbrev pub decreases-loop-self : goal.decreases-loop-self
decreases-loop-self l = l.self-inside.stop - l.self-inside.start
