use Rattle.break_layers.proofs.Common.{◌≡◌, inl, inr, ℤ, arith, cases_lt, NOTHING}
use Rattle.break_layers.proofs.Rows.{number_past, row_more}
use Rattle.break_layers.proofs.windows.clear.Goals as goal

pub loop-k-preserved : goal.loop-k-preserved
loop-k-preserved g c = record {
  done = λ day d. row_more (g.N.Number.on day) c.loop-k.row c.loop-k.k c.nothing.result (λ j (z : ℤ). z ≡ NOTHING) (omega (arith, c.loop-k.auto.row, c.loop-k-test.true)) (c.loop-k.invariant.done day d) (c.nothing.ensures day d);
}

pub returns : goal.returns
returns g c = λ day d k. elim (cases_lt k c.loop-k.k) [
  | inl l ↦ c.loop-k.invariant.done day d k l
  | inr h ↦ number_past (g.N.Number.on day) c.loop-k.row k (omega (arith, c.loop-k.auto.row, c.loop-k-test.false, h))
]
