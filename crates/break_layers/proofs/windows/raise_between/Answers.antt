use Rattle.break_layers.proofs.Common.{◌≡◌, ◌+◌, ◌<◌, ◌≤◌, inl, inr, ℤ, length, map, get_or, sym, ap, ◌∙◌, arith, int_max, cases_lt, number_in}
use Rattle.break_layers.proofs.Rows.{number_of_day, row_more, row_left, set_other}
use Rattle.break_layers.proofs.windows.raise_between.Goals as goal

pub loop-k-preserved : goal.loop-k-preserved
loop-k-preserved g c =
    let row = c.loop-k.row in
    let k = c.loop-k.k in
    let i = c.loop-k.invariant in
    let x = c.raise.new.self in
    let low : c.args.from ≤ k = c.loop-k.auto.k in
    let inside : k < length row = omega (arith, c.loop-k.auto.row, c.loop-k-test.true, c.requires.to) in
    record {
      far = λ n first last. omega (arith, last, c.loop-k-test.true);
      before = λ day j less. set_other (g.N.Number.on day) row k j x (λ e. omega (arith, e, less, low)) ∙ i.before day j less;
      done = λ day d.
          let on = g.N.Number.on day in
          let old = map on c.args.row.now in
          let one : on (get_or row k c.index-row-k.result) ≡ number_in old k = sym (number_of_day on row k c.index-row-k.result inside) ∙ i.left day k (omega arith) in
          row_more on row k x (λ j (z : ℤ). c.args.from ≤ j → z ≡ int_max (number_in old j) (number_in (map on c.args.table.now) (c.args.behind + j))) inside (i.done day d)
          (λ more. c.raise.ensures day d ∙ ap (λ (z : ℤ). int_max z (on c.number_at-more.result)) one ∙ ap (int_max (number_in old k)) (c.number_at-more.ensures day d));
      left = λ day. row_left (g.N.Number.on day) row k x (number_in (map (g.N.Number.on day) c.args.row.now)) (i.left day);
    }

pub returns-clause-inside : goal.returns-clause-inside
returns-clause-inside g c = λ day d k low high. c.loop-k.invariant.done day d k (omega (arith, high, c.loop-k-test.false)) low

pub returns-clause-after : goal.returns-clause-after
returns-clause-after g c = λ day k late. elim (cases_lt k c.args.from) [
  | inl l ↦ c.loop-k.invariant.before day k l
  | inr h ↦ c.loop-k.invariant.left day k (c.loop-k.invariant.far k h late)
]
