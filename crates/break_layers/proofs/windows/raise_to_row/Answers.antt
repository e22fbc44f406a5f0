use Rattle.break_layers.proofs.Common.{◌≡◌, ◌+◌, ◌<◌, ℕ, ℤ, length, map, get_or, sym, ap, ◌∙◌, arith, int_max, number_in}
use Rattle.break_layers.proofs.Rows.{number_of_day, row_more, row_left}
use Rattle.break_layers.proofs.windows.raise_to_row.Goals as goal

pub loop-k-preserved : goal.loop-k-preserved
loop-k-preserved g c =
    let row = c.loop-k.most in
    let k = c.loop-k.k in
    let i = c.loop-k.invariant in
    let inside : k < length row = omega (arith, c.loop-k.auto.most, c.loop-k-test.true) in
    record {
      done = λ day d.
          let on = g.N.Number.on day in
          let old = map on c.args.most.now in
          let other = map on c.args.row.now in
          let one : on (get_or row k c.index-most-k.result) ≡ number_in old k = sym (number_of_day on row k c.index-most-k.result inside) ∙ i.left day k (omega arith) in
          let two : on c.number_at-more.result ≡ number_in other (k + c.args.by) = c.number_at-more.ensures day d ∙ ap (λ (n : ℕ). number_in other (k + n)) c.from.ensures in
          row_more on row k c.raise.new.self (λ j (z : ℤ). z ≡ int_max (number_in old j) (number_in other (j + c.args.by))) inside (i.done day d)
          (c.raise.ensures day d ∙ ap (λ (z : ℤ). int_max z (on c.number_at-more.result)) one ∙ ap (int_max (number_in old k)) two);
      left = λ day. row_left (g.N.Number.on day) row k c.raise.new.self (number_in (map (g.N.Number.on day) c.args.most.now)) (i.left day);
    }
