use Rattle.cert_check.proofs.Common.{◌≡◌, ◌+◌, List, subst, refl, ◌∙◌, arith, Line, AreFindings}
use Rattle.cert_check.proofs.Batched.{judging_more}
use Rattle.cert_check.proofs.Lifted.{found_next, good_of}
use Rattle.cert_check.proofs.batches.judge_batch.Goals as goal

pub loop-line-preserved-else-not-branch : goal.loop-line-preserved-else-not-branch
loop-line-preserved-else-not-branch c = record {
  judging =
      judging_more c.args.instance.now c.args.tree.now c.loop-line.tree c.judge_line.new.tree c.args.before c.loop-line.number (c.loop-line.number + 1) c.args.lines.items _ _ c.in-Some.line c.loop-line.invariant.judging
      c.in-Some.ensures.steps.0 refl (good_of _ _ c.in_ok-judge_line.field-0 c.in_ok-judge_line.ensures.nodes c.if-not-branch.false);
  found =
      (found_next c.args.instance.now c.in-Some.line _ _ c.next-in-loop-line.new.self.rest.items _ _ c.next-in-loop-line.result
      (subst (λ (l : List Line). AreFindings c.args.instance.now l c.loop-line.found.rest.items) c.in-Some.ensures.steps.0 c.loop-line.invariant.found)
      (omega (arith, c.next-in-loop-line.new.self.rest.ok)) c.next-in-loop-line.ensures.cases).1;
  memory = c.judge_line.ensures.memory ∙ c.loop-line.invariant.memory;
}

pub loop-line-preserved-else-not-branch-2 : goal.loop-line-preserved-else-not-branch-2
loop-line-preserved-else-not-branch-2 c = record {
  judging =
      judging_more c.args.instance.now c.args.tree.now c.loop-line.tree c.judge_line.new.tree c.args.before c.loop-line.number (c.loop-line.number + 1) c.args.lines.items _ _ c.in-Some.line c.loop-line.invariant.judging
      c.in-Some.ensures.steps.0 refl (good_of _ _ c.in_ok-judge_line.field-0 c.in_ok-judge_line.ensures.nodes c.if-not-branch.false);
  found =
      (found_next c.args.instance.now c.in-Some.line _ _ c.next-in-loop-line.new.self.rest.items _ _ c.next-in-loop-line.result
      (subst (λ (l : List Line). AreFindings c.args.instance.now l c.loop-line.found.rest.items) c.in-Some.ensures.steps.0 c.loop-line.invariant.found)
      (omega (arith, c.next-in-loop-line.new.self.rest.ok)) c.next-in-loop-line.ensures.cases).1;
  memory = c.judge_line.ensures.memory ∙ c.loop-line.invariant.memory;
}

pub loop-line-preserved : goal.loop-line-preserved
loop-line-preserved c = record {
  judging =
      judging_more c.args.instance.now c.args.tree.now c.loop-line.tree c.judge_line.new.tree c.args.before c.loop-line.number (c.loop-line.number + 1) c.args.lines.items _ _ c.in-Some.line c.loop-line.invariant.judging
      c.in-Some.ensures.steps.0 refl (good_of _ _ c.in_ok-judge_line.field-0 c.in_ok-judge_line.ensures.nodes c.if-not-branch.false);
  found =
      (found_next c.args.instance.now c.in-Some.line _ _ c.next-in-loop-line.new.self.rest.items _ _ c.next-in-loop-line.result
      (subst (λ (l : List Line). AreFindings c.args.instance.now l c.loop-line.found.rest.items) c.in-Some.ensures.steps.0 c.loop-line.invariant.found)
      (omega (arith, c.next-in-loop-line.new.self.rest.ok)) c.next-in-loop-line.ensures.cases).1;
  memory = c.judge_line.ensures.memory ∙ c.loop-line.invariant.memory;
}
