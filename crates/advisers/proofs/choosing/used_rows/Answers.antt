use Rattle.advisers.proofs.Common.{◌≡◌, ◌≤◌, ◌<◌, ℕ, List, ◌++◌, Option, Some, None, length, length-append, ap, ◌∙◌, arith, flat_map, option_to_list, All-append, All-same, Row, below, shift_list, duties_on}
use Rattle.advisers.proofs.Choices.{rows_more}
use Rattle.advisers.proofs.choosing.used_rows.Goals as goal

at_most_one : (row : Option Row) → length (option_to_list row) ≤ 1
at_most_one None = omega arith
at_most_one (Some row) = omega arith

pub loop-day-preserved : goal.loop-day-preserved
loop-day-preserved c =
    let i = c.args.instance.now in
    let rows : List Row = c.loop-day.rows.items in
    let more : List Row = option_to_list c.in_ok-row.row in
    let pushed : c.add_row.new.rows.items ≡ rows ++ more = c.in_ok-add_row.ensures in
    let few : length rows ≤ c.loop-day.day = c.loop-day.invariant.few in
    let one : length more ≤ 1 = at_most_one c.in_ok-row.row in
    record {
      rota = rows_more i c.args.cuts.now c.args.pricer.now.prices c.args.shift c.loop-day.day rows more c.add_row.new.rows.items c.loop-day.invariant.rota c.in_ok-row.ensures.duties pushed;
      known = All-same (λ (r : Row). r.shift < length (shift_list i)) c.add_row.new.rows.items (rows ++ more) pushed
          (All-append (λ (r : Row). r.shift < length (shift_list i)) rows more c.loop-day.invariant.known c.in_ok-row.ensures.known);
      few = omega (arith, ap length pushed, length-append rows more);
    }

pub returns-clause-duties : goal.returns-clause-duties
returns-clause-duties c =
    let i = c.args.instance.now in
    let days = c.days-day-end.ensures.days in
    let last = c.loop-day-test.false in
    let first = c.loop-day.auto.day-end in
    let all : c.loop-day.day ≡ i.days = omega arith in
    c.loop-day.invariant.rota ∙ ap (λ (n : ℕ). flat_map (duties_on i c.args.cuts.now c.args.pricer.now.prices c.args.shift) (below n)) all

pub returns-clause-few : goal.returns-clause-few
returns-clause-few c =
    let days : c.args.instance.now.days ≤ 7 = c.days-day-end.ensures.valid.days in
    let end = c.days-day-end.ensures.days in
    let first = c.loop-day.auto.day-end in
    let few : length c.loop-day.rows.items ≤ c.loop-day.day = c.loop-day.invariant.few in
    omega arith
