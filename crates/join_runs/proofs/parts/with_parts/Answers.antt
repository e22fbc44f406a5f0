use Rattle.join_runs.proofs.Common.{◌+◌, ◌<◌, ◌≤◌, ◌^◌, get_or, length, refl, subst, sym, arith, Cert, SourceMet}
use Rattle.std.proofs.lemmas.Result.{err_from_is_err_and}
use Rattle.join_runs.proofs.Before.{all_joined, begins, get_at, goes_on, joined_instance, joined_whole, stops}
use Rattle.join_runs.proofs.Endings.{part_was_read}
use Rattle.join_runs.proofs.parts.with_parts.Goals as goal

pub loop-k-init : goal.loop-k-init
loop-k-init g c = begins g.P.Source.left c.args.instance.now c.args.whole c.args.parts.now c.in-Ok.joining c.in-Ok.ensures.alone

pub with_part-requires-clause-same : goal.with_part-requires-clause-same
with_part-requires-clause-same g c =
    let all = c.loop-k.invariant.joined in
    joined_instance c.args.instance.now c.args.whole all.0 c.loop-k.joining all.2

pub with_part-requires-clause-few : goal.with_part-requires-clause-few
with_part-requires-clause-few g c =
    let all = c.loop-k.invariant.joined in
    subst (λ (w : Cert). length w.lines ≤ 2 ^ 28) (sym (joined_whole c.args.instance.now c.args.whole all.0 c.loop-k.joining all.2)) c.requires.few

pub returns-in_err-joining-clause-status : goal.returns-in_err-joining-clause-status
returns-in_err-joining-clause-status g c =
    let p = err_from_is_err_and c.from_residual.result c.from_residual.ensures.1 in
    let low : c.loop-k.k < length c.loop-k.parts = omega (arith, c.loop-k-test.true, c.loop-k.auto.parts) in
    let x = get_or c.loop-k.parts c.loop-k.k c.index-parts-k.result in
    let at = get_at c.loop-k.parts c.loop-k.k c.index-parts-k.result low in
    rw (p.1, p.2)
    (stops g.P.Source.left g.P.Source.faults c.args.instance.now c.args.whole c.args.parts.now c.loop-k.parts c.loop-k.k (c.loop-k.k + 1) c.loop-k.joining x c.with_part.new.source c.in_err-joining.field-0.0 refl
    c.loop-k.invariant at c.in_err-joining.ensures.status)

pub returns-in_err-joining-clause-untouched : goal.returns-in_err-joining-clause-untouched
returns-in_err-joining-clause-untouched g c =
    let P = g.P.Source in
    let p = err_from_is_err_and c.from_residual.result c.from_residual.ensures.1 in
    let x = get_or c.loop-k.parts c.loop-k.k c.index-parts-k.result in
    let part : SourceMet = record { left = P.left x; faults = (P.faults x, P.faults c.with_part.new.source) } in
    rw (p.1, p.2) (λ early. absurd (part_was_read c.loop-k.joining (c.loop-k.k + 1) part c.in_err-joining.field-0.0 c.in_err-joining.ensures.status early))

pub loop-k-preserved : goal.loop-k-preserved
loop-k-preserved g c =
    let low : c.loop-k.k < length c.loop-k.parts = omega (arith, c.loop-k-test.true, c.loop-k.auto.parts) in
    let x = get_or c.loop-k.parts c.loop-k.k c.index-parts-k.result in
    let at = get_at c.loop-k.parts c.loop-k.k c.index-parts-k.result low in
    goes_on g.P.Source.left c.args.instance.now c.args.whole c.args.parts.now c.loop-k.parts c.loop-k.k c.loop-k.joining c.in_ok-joining.joining x c.with_part.new.source c.loop-k.invariant at
    c.in_ok-joining.ensures.joined

pub returns-clause-joined : goal.returns-clause-joined
returns-clause-joined g c =
    let long : length c.args.parts.now ≤ c.loop-k.k = omega (arith, c.loop-k-test.false) in
    all_joined g.P.Source.left c.args.instance.now c.args.whole c.args.parts.now c.loop-k.parts c.loop-k.k c.loop-k.joining long c.loop-k.invariant
