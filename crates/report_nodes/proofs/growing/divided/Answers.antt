use Rattle.report_nodes.proofs.Common.{◌+◌, slice_get, AtMost, AtLeast}
use Rattle.report_nodes.proofs.Grown.{part_at, parts_added}
use Rattle.report_nodes.proofs.growing.divided.Goals as goal

pub returns : goal.returns
returns c =
    let nodes = c.args.nodes.items in
    let k = c.args.k in
    parts_added (slice_get nodes k) nodes c.marked.result.items c.in_ok-longer.longer.items c.in_ok-whole.whole.items c.in_ok-at_most.at_most c.in_ok-at_least.at_least k c.args.class c.args.m
    (part_at nodes c.deref.result.now k c.in_ok-at_most.at_most c.args.class AtMost c.args.m c.deref.ensures.value c.in_ok-at_most.ensures)
    (part_at nodes c.deref-2.result.now k c.in_ok-at_least.at_least c.args.class AtLeast (c.args.m + 1) c.deref-2.ensures.value c.in_ok-at_least.ensures)
    c.marked.ensures c.in_ok-longer.ensures c.in_ok-whole.ensures
