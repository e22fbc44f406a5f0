use Rattle.report_joins.proofs.Sized.{alone_is, alone_room, end_within, part_bad, part_high, part_read}
use Rattle.report_joins.proofs.joining.accepted_below.Goals as goal

pub after-requires-clause-room : goal.after-requires-clause-room
after-requires-clause-room c =
    let a = alone_is c.args.ends.now c.args.run.now.node c.in_ok-alone.alone c.in_ok-alone.ensures in
    alone_room c.args.instance.now c.args.whole.now.lines c.args.ends.now c.args.run.now.node c.in_ok-alone.alone c.requires.made c.requires.known a

pub returns-in_default : goal.returns-in_default
returns-in_default c =
    let a = alone_is c.args.ends.now c.args.run.now.node c.in_ok-alone.alone c.in_ok-alone.ensures in
    part_bad c.args.instance.now c.args.whole.now c.args.part.now c.args.ends.now c.args.run.now.node c.args.run.now.lines c.in_ok-alone.alone c.in_ok-below.field-0 c.requires.made c.requires.run a c.in_ok-below.ensures c.in_default.is

pub floor_with-requires : goal.floor_with-requires
floor_with-requires c = end_within c.args.ends.now c.args.run.now.node c.requires.run.end

pub returns-then-branch-part : goal.returns-then-branch-part
returns-then-branch-part c =
    let a = alone_is c.args.ends.now c.args.run.now.node c.in_ok-alone.alone c.in_ok-alone.ensures in
    part_high c.args.instance.now c.args.whole.now c.args.part.now c.args.ends.now c.args.run.now.node c.args.run.now.lines c.in_ok-alone.alone c.in_ok-below.field-0 c.in-Some.below c.in_ok-floor_with.field-0 c.requires.made c.requires.run a c.in_ok-below.ensures c.in-Some.is
    c.in_ok-floor_with.ensures c.if-branch-part.true

pub returns-then-branch : goal.returns-then-branch
returns-then-branch c =
    let a = alone_is c.args.ends.now c.args.run.now.node c.in_ok-alone.alone c.in_ok-alone.ensures in
    part_read c.args.instance.now c.args.whole.now c.args.part.now c.args.ends.now c.args.run.now.node c.args.run.now.lines c.in_ok-alone.alone c.in_ok-below.field-0 c.in-Some.below c.in_ok-floor_with.field-0 c.in_ok-is_plan.field-0 c.requires.made c.requires.run a
    c.in_ok-below.ensures c.in-Some.is c.in_ok-floor_with.ensures c.if-branch-part.false c.in_ok-is_plan.ensures c.if-branch.true
