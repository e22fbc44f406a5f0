use Rattle.local_moves.proofs.Common.{◌∙◌, sym, arith, rota_of}
use Rattle.local_moves.proofs.Reshifts.{heads_absent, heads_over, heads_fine}
use Rattle.local_moves.proofs.reshifting.judge_heads.Goals as goal

pub returns-then-duties_of-eq0 : goal.returns-then-duties_of-eq0
returns-then-duties_of-eq0 c = heads_absent c.args.instance.now (rota_of c.args.draft.now.rows) c.args.from c.args.to (sym c.duties_of.ensures ∙ c.if-duties_of-eq0.true)

pub returns-then-from-heads : goal.returns-then-from-heads
returns-then-from-heads c =
    heads_over c.args.instance.now (rota_of c.args.draft.now.rows) c.args.from c.args.to c.most_heads-heads.result (λ e. c.if-duties_of-eq0.false (c.duties_of.ensures ∙ e)) c.most_heads-heads.ensures
    (omega (arith, c.if-from-heads.true, c.from.ensures, c.heads.ensures.heads))

pub returns : goal.returns
returns c =
    heads_fine c.args.instance.now (rota_of c.args.draft.now.rows) c.args.from c.args.to c.most_heads-heads.result (λ e. c.if-duties_of-eq0.false (c.duties_of.ensures ∙ e)) c.most_heads-heads.ensures
    (omega (arith, c.if-from-heads.false, c.from.ensures, c.heads.ensures.heads))
