use Rattle.cert_check.proofs.Common.{◌≡◌, AreFindings}
use Rattle.cert_check.proofs.Batched.{Judging}
use Rattle.cert_check.proofs.batches.judge_batch.Given as goal

abbrev pub invariant-loop-line : goal.invariant-loop-line
invariant-loop-line l = record {
  judging : Judging l.instance l.initial.tree l.before l.fn.lines.items l.tree l.number l.line-iterator.rest.items;
  found : AreFindings l.instance l.line-iterator.rest.items l.found.rest.items;
  memory : l.memory ≡ l.instance;
}
