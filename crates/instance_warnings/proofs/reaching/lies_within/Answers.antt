use Rattle.instance_warnings.proofs.Common.{arith}
use Rattle.instance_warnings.proofs.Reached.{apart_next, apart_avoids, len_of}
use Rattle.instance_warnings.proofs.reaching.lies_within.Goals as goal

pub loop-offset-init : goal.loop-offset-init
loop-offset-init c = λ k h. absurd (omega arith)

pub loop-offset-preserved : goal.loop-offset-preserved
loop-offset-preserved c =
    apart_next c.args.instance.now c.args.t c.args.shift c.args.day c.loop-offset.offset c.slot_of.result c.requires c.slot_of.ensures.slot c.if-slot_of-t.false c.loop-offset.invariant

pub returns : goal.returns
returns c = λ no.
    apart_avoids c.args.instance.now c.args.t c.args.shift c.args.day c.shift-len.result.len c.requires (len_of c.args.instance.now c.args.shift c.shift-len.result c.requires c.shift-len.ensures.shift)
    (λ k h. c.loop-offset.invariant k (omega (arith, h, c.loop-offset-test.false)))
