use Rattle.cert_check.proofs.Common.{◌∙◌}
use Rattle.cert_check.proofs.Batched.{batch_more}
use Rattle.cert_check.proofs.batches.judge_lines_by.Goals as goal

pub loop-reader-preserved : goal.loop-reader-preserved
loop-reader-preserved g c =
    let v = c.loop-reader.invariant in
    let m = batch_more c.args.instance.now c.loop-reader.tree c.judge_batch.new.tree c.args.lines.now c.loop-reader.reader c.next_lines.new.reader c.in_ok-batch.batch.items
    c.len-in-loop-reader.result c.len-in-loop-reader-2.result v.nodes v.causes v.few c.in_ok-batch.ensures.lines c.len-in-loop-reader.ensures c.len-in-loop-reader-2.ensures c.in_ok-judge_batch.ensures.good in
    record { nodes = m.0; causes = m.1; few = m.2; memory = c.in_ok-judge_batch.ensures.memory ∙ v.memory }
