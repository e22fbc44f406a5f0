use Rattle.break_layers.proofs.Common.{◌≡◌, ◌≢◌, ◌<◌, ◌+ℤ◌, ℕ, ℤ, length, map, get_or, sym, ap, subst, ◌∙◌, arith, FitsSigned, w64, sum_at, NOTHING, number_in}
use Rattle.break_layers.proofs.Rows.{number_of_day, row_more, row_left}
use Rattle.break_layers.proofs.windows.add_sums.Goals as goal

pub loop-k-preserved : goal.loop-k-preserved
loop-k-preserved g c =
    let row = c.loop-k.row in
    let k = c.loop-k.k in
    let i = c.loop-k.invariant in
    let x = c.with.result in
    let inside : k < length row = omega (arith, c.loop-k.auto.row, c.loop-k-test.true) in
    let one : (day : ℕ) → g.N.Number.on day (get_or row k c.index-row-k.result) ≡ number_in (map (g.N.Number.on day) c.args.row.now) k =
    λ day. sym (number_of_day (g.N.Number.on day) row k c.index-row-k.result inside) ∙ i.left day k (omega arith) in
    record {
      nothing = λ day d.
          let on = g.N.Number.on day in
          row_more on row k x (λ j (z : ℤ). number_in (map on c.args.row.now) j ≡ NOTHING → z ≡ NOTHING) inside (i.nothing day d) (λ none. c.with.ensures.nothing day d (one day ∙ none));
      total = λ day d.
          let on = g.N.Number.on day in
          let old = map on c.args.row.now in
          let sums = map on c.args.sums.now in
          let both : on (get_or row k c.index-row-k.result) +ℤ on c.sums_at.result ≡ number_in old k +ℤ sum_at sums k =
          ap (λ (z : ℤ). z +ℤ on c.sums_at.result) (one day) ∙ ap (λ (z : ℤ). number_in old k +ℤ z) (c.sums_at.ensures day d) in
          row_more on row k x (λ j (z : ℤ). number_in old j ≢ NOTHING → FitsSigned w64 (number_in old j +ℤ sum_at sums j) → z ≡ number_in old j +ℤ sum_at sums j) inside (i.total day d)
          (λ some fits. c.with.ensures.total day d (λ none. some (sym (one day) ∙ none)) (subst (FitsSigned w64) (sym both) fits) ∙ both);
      left = λ day. row_left (g.N.Number.on day) row k x (number_in (map (g.N.Number.on day) c.args.row.now)) (i.left day);
    }
