use Rattle.head_splits.proofs.Common.{◌≡◌, ◌≤◌, ◌<◌, ◌++◌, ◌∷◌, [], List, length, take, get_or, arith, sym, ap, ◌∙◌, take_more, Break, low, high, class_at}
use Rattle.head_splits.proofs.SplitPlaces.{place_found, whole_found, fixed_more}
use Rattle.head_splits.proofs.settling.open_place.Goals as goal

pub returns-then-low-high : goal.returns-then-low-high
returns-then-low-high c =
    let i = c.args.instance.now in
    let cuts = c.args.cuts.now in
    let d = c.args.duty.now in
    let place = c.loop-stop.place in
    let at = c.loop-stop.stop-index in
    let h = c.loop-stop.invariant in
    let range = c.range_of-low.ensures i cuts c.requires.table in
    let within : at ≤ length d.breaks = omega (arith, c.loop-stop-test.true, ap length c.as_slice-stop-items.ensures) in
    let room : low cuts (class_at place) < high i cuts (class_at place) = omega (arith, c.if-low-high.true, range.0, range.1) in
    record { first = place_found i cuts d place at h.shift h.day h.prefix within h.fixed room }

pub loop-stop-preserved : goal.loop-stop-preserved
loop-stop-preserved c =
    let i = c.args.instance.now in
    let cuts = c.args.cuts.now in
    let d = c.args.duty.now in
    let place = c.loop-stop.place in
    let at = c.loop-stop.stop-index in
    let h = c.loop-stop.invariant in
    let none : Break = record { start = 0; len = 0 } in
    let range = c.range_of-low.ensures i cuts c.requires.table in
    let inside : at < length d.breaks = omega (arith, c.loop-stop-test.true, ap length c.as_slice-stop-items.ensures) in
    let shut : high i cuts (class_at place) ≤ low cuts (class_at place) = omega (arith, c.if-low-high.false, range.0, range.1) in
    record {
      shift = h.shift;
      day = h.day;
      prefix = c.in_ok-push.ensures.items ∙ ap (λ (l : List Break). l ++ get_or c.as_slice-stop-items.result.now at none ∷ []) h.prefix
          ∙ ap (λ (l : List Break). take at d.breaks ++ get_or l at none ∷ []) c.as_slice-stop-items.ensures ∙ sym (take_more d.breaks at none inside);
      fixed = fixed_more i cuts d place at h.shift h.day h.prefix (omega arith) h.fixed shut;
    }

pub returns : goal.returns
returns c =
    let i = c.args.instance.now in
    let cuts = c.args.cuts.now in
    let d = c.args.duty.now in
    let h = c.loop-stop.invariant in
    let at = c.loop-stop.stop-index in
    let long : length c.as_slice-stop-items.result.now ≡ length d.breaks = ap length c.as_slice-stop-items.ensures in
    let within : at ≤ length d.breaks = omega arith in
    let all : length d.breaks ≤ at = omega (arith, c.loop-stop-test.false) in
    record { first = whole_found i cuts d c.loop-stop.place at h.shift h.day h.prefix within h.fixed c.requires.duty all }
