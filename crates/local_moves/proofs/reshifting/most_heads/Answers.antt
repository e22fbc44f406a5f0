use Rattle.local_moves.proofs.Common.{◌≡◌, ◌+◌, ◌∙◌, max, ap, arith, heads_on, rota_of}
use Rattle.local_moves.proofs.Reshifts.{greatest_more}
use Rattle.local_moves.proofs.reshifting.most_heads.Goals as goal

pub loop-day-preserved : goal.loop-day-preserved
loop-day-preserved c =
    let rota = rota_of c.args.draft.now.rows in
    let day = c.loop-day.day in
    let there : c.from-there.result ≡ heads_on rota c.args.to day = c.from-there.ensures ∙ c.heads_on.ensures in
    let here : c.from-here.result ≡ heads_on rota c.args.from day = c.from-here.ensures ∙ c.heads_on-in-loop-day.ensures in
    greatest_more (λ day. heads_on rota c.args.to day + heads_on rota c.args.from day) day c.loop-day.most c.larger-most.result c.loop-day.invariant
    (c.larger-most.ensures ∙ ap (max c.loop-day.most) (omega (arith, there, here)))
