use Rattle.instance_warnings.proofs.Common.{ℕ, ◌-◌, ◌≤◌, max, fold, ap, sym, ◌∙◌, arith, range_with_len, total_in}
use Rattle.instance_warnings.proofs.Lists.{greatest_more}
use Rattle.instance_warnings.proofs.oddities.most_break.Goals as goal

pub loop-len-preserved : goal.loop-len-preserved
loop-len-preserved c =
    let totals = c.as_slice-totals.result.now in
    let low = c.kind.inside.len_min in
    let at = c.loop-len.len in
    let before : ℕ = fold (λ most len. max most (total_in totals len)) 0 (range_with_len low (at - low)) in
    let above : low ≤ at = omega arith in
    c.max-most.ensures ∙ ap (λ (m : ℕ). max m c.total_among.result) c.loop-len.invariant ∙ ap (λ (n : ℕ). max before n) c.total_among.ensures.total ∙ sym (greatest_more (total_in totals) low at above)
