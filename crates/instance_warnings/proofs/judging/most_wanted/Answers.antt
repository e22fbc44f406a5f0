use Rattle.instance_warnings.proofs.Common.{ℕ, max, fold, ap, sym, ◌∙◌, arith, need_max_at, below}
use Rattle.instance_warnings.proofs.Reached.{greatest_next}
use Rattle.instance_warnings.proofs.judging.most_wanted.Goals as goal

pub loop-t-preserved : goal.loop-t-preserved
loop-t-preserved c =
    let i = c.args.instance.now in
    let before : ℕ = fold (λ most s. max most (need_max_at i s)) 0 (below c.loop-t.t) in
    record {
      greatest = c.max-greatest.ensures ∙ ap (λ (g : ℕ). max g c.need_max.result) c.loop-t.invariant.greatest ∙ ap (λ (n : ℕ). max before n) c.need_max.ensures.need_max ∙ sym (greatest_next (need_max_at i) c.loop-t.t);
      limit = omega arith;
    }
