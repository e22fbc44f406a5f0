use Rattle.instance_warnings.proofs.Common.{ℕ, max, fold, ap, sym, ◌∙◌, arith, need_at, below}
use Rattle.instance_warnings.proofs.Reached.{greatest_next}
use Rattle.instance_warnings.proofs.oddities.greatest_need.Goals as goal

pub loop-t-preserved : goal.loop-t-preserved
loop-t-preserved c =
    let i = c.args.instance.now in
    let before : ℕ = fold (λ most s. max most (need_at i s)) 0 (below c.loop-t.t) in
    record {
      greatest = c.max-greatest.ensures ∙ ap (λ (g : ℕ). max g c.need.result) c.loop-t.invariant.greatest ∙ ap (λ (n : ℕ). max before n) c.need.ensures.need ∙ sym (greatest_next (need_at i) c.loop-t.t);
      limit = omega arith;
    }
