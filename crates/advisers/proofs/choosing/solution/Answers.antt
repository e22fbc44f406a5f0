use Rattle.advisers.proofs.Common.{◌≡◌, ◌≤◌, ◌<◌, ◌*◌, List, ◌++◌, length, length-append, ap, ◌∙◌, arith, All-append, All-same, Row, shift_list, rota_of}
use Rattle.advisers.proofs.Choices.{shifts_more, solution_is}
use Rattle.advisers.proofs.choosing.solution.Goals as goal

pub loop-shift-preserved : goal.loop-shift-preserved
loop-shift-preserved c =
    let i = c.args.instance.now in
    let rows : List Row = c.loop-shift.rows.items in
    let more : List Row = c.in_ok-more.more.items in
    let pushed : c.add_rows.new.rows.items ≡ rows ++ more = c.in_ok-add_rows.ensures in
    let few : length rows ≤ c.loop-shift.shift * 7 = c.loop-shift.invariant.few in
    let some : length more ≤ 7 = c.in_ok-more.ensures.few in
    record {
      rota = ap rota_of pushed ∙ shifts_more i c.args.cuts.now c.args.pricer.now.prices c.loop-shift.shift rows more c.loop-shift.invariant.rota c.in_ok-more.ensures.duties;
      known = All-same (λ (r : Row). r.shift < length (shift_list i)) c.add_rows.new.rows.items (rows ++ more) pushed
          (All-append (λ (r : Row). r.shift < length (shift_list i)) rows more c.loop-shift.invariant.known c.in_ok-more.ensures.known);
      few = omega (arith, ap length pushed, length-append rows more);
    }

pub returns-clause-duties : goal.returns-clause-duties
returns-clause-duties c =
    let i = c.args.instance.now in
    solution_is i c.args.cuts.now c.args.pricer.now.prices c.loop-shift.shift (rota_of c.loop-shift.rows.items) c.loop-shift.invariant.rota (omega (arith, c.shifts.ensures.count))
