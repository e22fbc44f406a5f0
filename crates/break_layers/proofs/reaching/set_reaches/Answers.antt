use Rattle.break_layers.proofs.Common.{◌≡◌, ◌+◌, ◌<◌, ◌≤◌, ℕ, inl, inr, length, map, sym, subst, arith, cases_lt, end_of_all, number_in, IsBehindAt, IsInWindow, IsReachAt}
use Rattle.break_layers.proofs.Reach.{none_at, reach_late, size_raised, with_sum}
use Rattle.break_layers.proofs.Rows.{number_past}
use Rattle.break_layers.proofs.reaching.set_reaches.Goals as goal

pub loop-size-init : goal.loop-size-init
loop-size-init g c = record {
  each = λ day d s known list start inside walk is window.
      subst (IsBehindAt c.args.rule.now c.args.len (map (g.N.Number.on day) c.args.sums.now) list start c.args.sizes.from c.args.sizes.from) (sym (c.clear.ensures day d start))
      (none_at c.args.rule.now c.args.len (map (g.N.Number.on day) c.args.sums.now) list c.requires.rule s start c.args.sizes.from);
}

pub loop-size-preserved : goal.loop-size-preserved
loop-size-preserved g c =
    let rule = c.args.rule.now in
    let len = c.args.len in
    let sizes = c.args.sizes in
    let size = c.loop-size.size in
    record {
      each = λ day d s known list start inside walk is window.
          let on = g.N.Number.on day in
          let sums = map on c.args.sums.now in
          let raised = c.raise_by_size.ensures day sums d s known start inside in
          let low : sizes.from ≤ size = c.loop-size.auto.size in
          let own : IsInWindow rule list (record { start = start; len = size }) =
          record { earliest = window.earliest; latest = subst (λ n. start ≤ end_of_all list + n) (sym (c.requires.sizes.alike size low c.loop-size-test.true)) window.latest } in
          size_raised rule len sums list c.requires.rule s start sizes.from size (number_in (map on c.loop-size.row) start) raised.most (number_in (map on c.raise_by_size.new.row) start) low raised.raised
          (c.loop-size.invariant.each day d s known list start inside walk is window) (raised.exact list walk is own);
    }

pub returns : goal.returns
returns g c = λ day d s known list start walk is window.
    let on = g.N.Number.on day in
    let rule = c.args.rule.now in
    let len = c.args.len in
    let sums = map on c.args.sums.now in
    let sizes = c.args.sizes in
    let row = c.loop-size.row in
    let new = c.add_sums.new.row in
    let r = c.requires.rule in
    let end : c.loop-size.size ≡ sizes.to = omega (arith, c.loop-size.auto.size-end c.requires.some, c.loop-size-test.false) in
    let many : length row ≡ len + 1 = omega (arith, c.loop-size.auto.row, c.clear.auto.row, c.requires.row) in
    elim (cases_lt len start) [
      | inl late ↦
          subst (IsReachAt rule len sums list start sizes.from sizes.to) (sym (number_past on new start (omega (arith, many, c.add_sums.auto.row, late))))
          (reach_late rule len sums list r s start sizes.from sizes.to late)
      | inr inside ↦
          let below : start < length row = omega (arith, many, inside) in
          let own : IsBehindAt rule len sums list start sizes.from sizes.to (number_in (map on row) start) =
          subst (λ (n : ℕ). IsBehindAt rule len sums list start sizes.from n (number_in (map on row) start)) end (c.loop-size.invariant.each day d s known list start inside walk is window) in
          with_sum rule len sums list r s start sizes.from sizes.to (number_in (map on row) start) (number_in (map on new) start) own (c.add_sums.ensures.nothing day d start below) (c.add_sums.ensures.total day d start below)
    ]
