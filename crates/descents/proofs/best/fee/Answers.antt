use Rattle.descents.proofs.Common.{◌≡◌, ◌∙◌, ℕ, cond, sym, ap, arith, rota_of, used_by_count, unused_by_count}
use Rattle.descents.proofs.best.fee.Goals as goal

pub returns-then-duties_of-eq0-clause-fee : goal.returns-then-duties_of-eq0-clause-fee
returns-then-duties_of-eq0-clause-fee c =
    let i = c.args.instance.now in
    ap (λ (t : ℕ × ℕ × ℕ). t.2) c.weights-weight.ensures.weights
    ∙ sym (ap (λ b. cond b 0 i.shift) (unused_by_count (rota_of c.args.draft.now.rows) c.args.shift (sym c.duties_of.ensures ∙ c.if-duties_of-eq0.true)))

pub returns-then-duties_of-eq0-clause-few : goal.returns-then-duties_of-eq0-clause-few
returns-then-duties_of-eq0-clause-few c =
    let weight : c.weights-weight.result.2 ≡ c.args.instance.now.shift = ap (λ (t : ℕ × ℕ × ℕ). t.2) c.weights-weight.ensures.weights in
    omega (arith, weight, c.weights-weight.ensures.valid.shift)

pub returns-else-duties_of-eq0-clause-fee : goal.returns-else-duties_of-eq0-clause-fee
returns-else-duties_of-eq0-clause-fee c =
    let i = c.args.instance.now in
    sym (ap (λ b. cond b 0 i.shift) (used_by_count (rota_of c.args.draft.now.rows) c.args.shift (λ e. c.if-duties_of-eq0.false (c.duties_of.ensures ∙ e))))
