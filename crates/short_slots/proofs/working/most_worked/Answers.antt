use Rattle.short_slots.proofs.Common.{◌≡◌, ◌≤◌, length, arith, shift_list}
use Rattle.short_slots.proofs.Ones.{one_below, all_below}
use Rattle.short_slots.proofs.working.most_worked.Goals as goal

pub loop-shift-preserved : goal.loop-shift-preserved
loop-shift-preserved c = one_below c.args.instance.now c.loop-shift.shift c.loop-shift.most c.in_ok-of_shift.of_shift c.max-most.result c.loop-shift.invariant c.in_ok-of_shift.ensures c.max-most.ensures

pub returns : goal.returns
returns c =
    let i = c.args.instance.now in
    let count : length c.shifts.result.now ≡ length (shift_list i) = c.shifts.ensures.count in
    let few : length (shift_list i) ≤ 1024 = c.shifts.ensures.valid.shifts in
    let all : c.loop-shift.shift ≡ length (shift_list i) = omega arith in
    all_below i c.loop-shift.shift c.loop-shift.most all c.loop-shift.invariant
