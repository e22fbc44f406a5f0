use Rattle.break_rules.proofs.Common.{◌≡◌, ◌⊎◌, [], ◌+◌, ◌≤◌, ◌<◌, inl, inr, sym, ap, subst, ◌∙◌, arith, filter, IsAt, shortest_of, may_follow, breaks_left}
use Rattle.break_rules.proofs.Left.{filter_left_yes, none_left}
use Rattle.break_rules.proofs.Steps.{follows_at, next_start, at_next}
use Rattle.break_rules.proofs.walking.NextBreaks.next_break.Goals as goal
use Rattle.break_rules.proofs.walking.NextBreaks.next_break.Goals.{else-self-via-then-self+else-self-2, else-self-via-else-self}

pub returns-then-self-2 : goal.returns-then-self-2
returns-then-self-2 c =
    let n = c.loop-self.self-inside in
    let at = c.loop-self.invariant.at in
    let fits : n.start + n.size ≤ n.len = omega (arith, at.end) in
    sym c.loop-self.invariant.same
    ∙ filter_left_yes (may_follow n.rule.now n.len n.offset n.used) n.start n.size n.len fits
    (follows_at n.rule.now n.len n.offset n.used n.stop n.latest n.longest n.start n.size at c.loop-self-test.true c.if-self.true c.if-self-2.true)

pub loop-self-preserved : goal.loop-self-preserved
loop-self-preserved c =
    let n = c.loop-self.self-inside in
    let at = c.loop-self.invariant.at in
    let over : (n.longest < n.size) ⊎ (n.latest < n.start + n.size) = elim c.else-self.branch [ else-self-via-then-self+else-self-2 w ↦ inr w.if-self-2.false | else-self-via-else-self w ↦ inl w.if-self.false ] in
    let size : shortest_of n.rule.now n.offset (n.start + 1) ≡ c.shortest-self-inside.result =
    ap (λ o. shortest_of n.rule.now o (n.start + 1)) (sym c.from.ensures) ∙ sym c.shortest-self-inside.ensures in
    record {
      same = ap (λ z. filter (may_follow n.rule.now n.len n.offset n.used) (breaks_left (n.start + 1) z n.len)) (sym size)
          ∙ sym (next_start n.rule.now n.len n.offset n.used n.stop n.latest n.longest n.start n.size at over) ∙ c.loop-self.invariant.same;
      at = subst (λ z. IsAt n.rule.now n.len n.offset n.used n.stop n.latest n.longest (n.start + 1) z) size
          (at_next n.rule.now n.len n.offset n.used n.stop n.latest n.longest n.start n.size at c.loop-self-test.true);
    }

pub returns : goal.returns
returns c =
    let n = c.loop-self.self-inside in
    let none : filter (may_follow n.rule.now n.len n.offset n.used) (breaks_left n.start n.size n.len) ≡ [] =
    none_left (may_follow n.rule.now n.len n.offset n.used) n.start n.size n.len (λ b low. c.loop-self.invariant.at.stops b (omega (arith, low, c.loop-self-test.false))) in
    (sym c.loop-self.invariant.same ∙ none, none)
