use Rattle.shift_instance.proofs.Common.{◌≡◌, ℕ, ◌++◌, ◌-◌, ap, subst, arith, range_with_len, flat_map, Kind, starting}
use Rattle.shift_instance.proofs.Made.{starts_more, starts_all}
use Rattle.shift_instance.proofs.listing.push_starts.Goals as goal

pub loop-start-preserved : goal.loop-start-preserved
loop-start-preserved c = starts_more c.args.number c.kind.inside.start_min c.loop-start.start c.args.kind.now c.args.shifts.now.items c.loop-start.shifts.items c.push_lengths.new.shifts.items c.loop-start.auto.start c.loop-start.invariant c.in_ok-push_lengths.ensures

pub returns : goal.returns
returns c =
    let k = c.args.kind.now in
    let low : c.kind.inside.start_min ≡ k.start_min = ap (λ (q : Kind). q.start_min) c.kind.view_is in
    let high : c.kind.inside.start_max ≡ k.start_max = ap (λ (q : Kind). q.start_max) c.kind.view_is in
    starts_all c.args.number c.loop-start.start k c.args.shifts.now.items c.loop-start.shifts.items c.requires
    (λ h. let e = c.loop-start.auto.start-end (omega arith) in omega arith) (omega arith)
    (subst (λ (m : ℕ). c.loop-start.shifts.items ≡ c.args.shifts.now.items ++ flat_map (starting c.args.number k) (range_with_len m (c.loop-start.start - m))) low c.loop-start.invariant)
