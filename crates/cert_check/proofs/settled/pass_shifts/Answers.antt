use Rattle.cert_check.proofs.Common.{◌+◌, length, Bool, arith, subst, flat_map, below, shift_list, all_duties, shift_duties, IsPassed}
use Rattle.cert_check.proofs.Passing.{none_open, next_passed, stopped_passed}
use Rattle.cert_check.proofs.settled.pass_shifts.Goals as goal

pub returns-then-not-fixed : goal.returns-then-not-fixed
returns-then-not-fixed c =
    let i = c.args.instance.now in
    let cuts = c.args.cuts.now in
    let fixed = c.in_ok-fixed.fixed in
    let before = c.args.rows.now.items in
    let after = c.pass_shift.new.rows.items in
    subst (λ (b : Bool). IsPassed i cuts (all_duties i) b before after) c.if-not-fixed.true
    (stopped_passed i cuts (shift_duties i) (length (shift_list i)) c.loop-shift.shift fixed before after (omega (arith, c.loop-shift-test.true, c.shifts-shift-end.ensures.count)) c.if-not-fixed.true
    (next_passed i cuts (shift_duties i) c.loop-shift.shift fixed before c.loop-shift.rows.items after c.loop-shift.invariant c.in_ok-fixed.ensures))

pub loop-shift-preserved : goal.loop-shift-preserved
loop-shift-preserved c =
    let i = c.args.instance.now in
    let cuts = c.args.cuts.now in
    let fixed = c.in_ok-fixed.fixed in
    let before = c.args.rows.now.items in
    let after = c.pass_shift.new.rows.items in
    none_open i cuts (flat_map (shift_duties i) (below (c.loop-shift.shift + 1))) fixed before after
    (next_passed i cuts (shift_duties i) c.loop-shift.shift fixed before c.loop-shift.rows.items after c.loop-shift.invariant c.in_ok-fixed.ensures) c.if-not-fixed.false
