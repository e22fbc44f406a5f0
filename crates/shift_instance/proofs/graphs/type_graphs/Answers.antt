use Rattle.shift_instance.proofs.Common.{refl, arith, slice_get_read}
use Rattle.shift_instance.proofs.KeptGraphs.{types_more}
use Rattle.shift_instance.proofs.graphs.type_graphs.Goals as goal

pub loop-kind-preserved : goal.loop-kind-preserved
loop-kind-preserved c = record {
  many = omega (arith, c.in_ok-push.ensures.len, c.loop-kind.invariant.many);
  made = types_more c.args.kinds.now c.loop-kind.graphs.items c.push.new.self.items c.in_ok-of.of c.loop-kind.kind-index c.kind-item.result
      (slice_get_read c.args.kinds.now _ c.loop-kind.kind-index c.kind-item.result refl c.loop-kind-test.true c.kind-item.is)
      c.loop-kind.invariant.many c.loop-kind.invariant.made c.in_ok-of.ensures c.in_ok-push.ensures.items;
}
