use Rattle.break_layers.proofs.Common.{◌≡◌, ◌+◌, ◌<◌, ◌≤◌, inl, inr, ℤ, length, map, get_or, sym, ap, ◌∙◌, arith, int_max, cases_lt, number_in}
use Rattle.break_layers.proofs.Rows.{number_of_day, number_past, row_more, row_left}
use Rattle.break_layers.proofs.windows.raise_by.Goals as goal

pub loop-k-preserved : goal.loop-k-preserved
loop-k-preserved g c =
    let row = c.loop-k.row in
    let k = c.loop-k.k in
    let i = c.loop-k.invariant in
    let inside : k < length row = omega (arith, c.loop-k.auto.row, c.loop-k-test.true) in
    record {
      done = λ day d.
          let on = g.N.Number.on day in
          let old = map on c.args.row.now in
          let one : on (get_or row k c.index-row-k.result) ≡ number_in old k = sym (number_of_day on row k c.index-row-k.result inside) ∙ i.left day k (omega arith) in
          let two : on c.number_at-more.result ≡ number_in old (k + c.args.by) = c.number_at-more.ensures day d ∙ i.left day (k + c.args.by) (omega arith) in
          row_more on row k c.raise.new.self (λ j (z : ℤ). z ≡ int_max (number_in old j) (number_in old (j + c.args.by))) inside (i.done day d)
          (c.raise.ensures day d ∙ ap (λ (z : ℤ). int_max z (on c.number_at-more.result)) one ∙ ap (int_max (number_in old k)) two);
      left = λ day. row_left (g.N.Number.on day) row k c.raise.new.self (number_in (map (g.N.Number.on day) c.args.row.now)) (i.left day);
    }

pub returns : goal.returns
returns g c = λ day d k. elim (cases_lt k c.loop-k.k) [
  | inl l ↦ c.loop-k.invariant.done day d k l
  | inr h ↦
      let on = g.N.Number.on day in
      let past : length c.args.row.now ≤ k = omega (arith, c.loop-k-test.false, h) in
      number_past on c.loop-k.row k (omega (arith, c.loop-k.auto.row, past))
      ∙ sym (ap (λ (z : ℤ). int_max z (number_in (map on c.args.row.now) (k + c.args.by))) (number_past on c.args.row.now k past)
      ∙ ap (int_max _) (number_past on c.args.row.now (k + c.args.by) (omega (arith, past))))
]
