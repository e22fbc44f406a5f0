use Rattle.shift_instance.proofs.Common.{◌≡◌, ◌∙◌, ℕ, ◌+◌, ◌-◌, ◌*◌, ap, sym, Kind}
use Rattle.shift_instance.proofs.Made.{length_kind}
use Rattle.shift_instance.proofs.judging.kind_count.Goals as goal

pub returns-clause-count : goal.returns-clause-count
returns-clause-count c = λ n.
    let k = c.args.kind.now in
    let a : c.span.result ≡ k.start_max + 1 - k.start_min = c.span.ensures.span ∙ ap (λ (q : Kind). q.start_max + 1 - q.start_min) c.kind.view_is in
    let b : c.span-2.result ≡ k.len_max + 1 - k.len_min = c.span-2.ensures.span ∙ ap (λ (q : Kind). q.len_max + 1 - q.len_min) c.kind.view_is in
    ap (λ (m : ℕ). m * c.span-2.result) a ∙ ap (λ (m : ℕ). (k.start_max + 1 - k.start_min) * m) b ∙ sym (length_kind n k)
