use Rattle.head_splits.proofs.Common.{◌≡◌, ◌+◌, [], None, ℕ, List, arith, sym, ap, subst, ◌∙◌, flat_map, Duty, below, IsWalked, duties_below}
use Rattle.head_splits.proofs.Walked.{no_some}
use Rattle.head_splits.proofs.WholeWalk.{next_walked, stopped, shift_days}
use Rattle.head_splits.proofs.settling.walk_days.Goals as goal

pub returns-then-is_some-clause-walked : goal.returns-then-is_some-clause-walked
returns-then-is_some-clause-walked c =
    let i = c.args.instance.now in
    let cuts = c.args.cuts.now in
    let s = c.args.walk.now.place.shift in
    let f : ℕ → List Duty = λ day. duties_below i s day [] in
    let found = c.in_ok-found.found in
    let before = c.args.walk.now.rows.items in
    let after = c.walk_below.new.walk.rows.items in
    let same : duties_below i c.loop-day.walk.place.shift c.loop-day.day c.loop-day.walk.place.prefix.items ≡ f c.loop-day.day =
    ap (λ z. duties_below i z c.loop-day.day c.loop-day.walk.place.prefix.items) c.loop-day.invariant.shift ∙ ap (duties_below i s c.loop-day.day) c.loop-day.invariant.prefix in
    let next = next_walked i cuts f c.loop-day.day found before c.loop-day.walk.rows.items after c.loop-day.invariant.walked (subst (λ ds. IsWalked i cuts ds found c.loop-day.walk.rows.items after) same c.in_ok-found.ensures.walked) in
    subst (λ ds. IsWalked i cuts ds found before after) (shift_days i cuts s)
    (stopped i cuts f i.days c.loop-day.day found before after (omega (arith, c.loop-day-test.true, c.days-day-end.ensures.days)) (sym c.is_some.ensures ∙ c.if-is_some.true) next)

pub loop-day-preserved : goal.loop-day-preserved
loop-day-preserved c =
    let i = c.args.instance.now in
    let cuts = c.args.cuts.now in
    let s = c.args.walk.now.place.shift in
    let f : ℕ → List Duty = λ day. duties_below i s day [] in
    let found = c.in_ok-found.found in
    let before = c.args.walk.now.rows.items in
    let after = c.walk_below.new.walk.rows.items in
    let same : duties_below i c.loop-day.walk.place.shift c.loop-day.day c.loop-day.walk.place.prefix.items ≡ f c.loop-day.day =
    ap (λ z. duties_below i z c.loop-day.day c.loop-day.walk.place.prefix.items) c.loop-day.invariant.shift ∙ ap (duties_below i s c.loop-day.day) c.loop-day.invariant.prefix in
    let next = next_walked i cuts f c.loop-day.day found before c.loop-day.walk.rows.items after c.loop-day.invariant.walked (subst (λ ds. IsWalked i cuts ds found c.loop-day.walk.rows.items after) same c.in_ok-found.ensures.walked) in
    let nothing : found ≡ None = no_some found (sym c.is_some.ensures ∙ c.if-is_some.false) in
    let place = c.in_ok-found.ensures.place nothing in
    record {
      shift = place.0 ∙ c.loop-day.invariant.shift;
      prefix = place.2 ∙ c.loop-day.invariant.prefix;
      walked = subst (λ o. IsWalked i cuts (flat_map f (below (c.loop-day.day + 1))) o before after) nothing next;
    }

pub returns-clause-walked : goal.returns-clause-walked
returns-clause-walked c =
    let i = c.args.instance.now in
    let cuts = c.args.cuts.now in
    let s = c.args.walk.now.place.shift in
    let all : c.loop-day.day ≡ i.days = omega (arith, c.loop-day-test.false, c.loop-day.auto, c.days-day-end.ensures.days) in
    subst (λ ds. IsWalked i cuts ds None c.args.walk.now.rows.items c.loop-day.walk.rows.items)
    (ap (λ n. flat_map (λ day. duties_below i s day []) (below n)) all ∙ shift_days i cuts s) c.loop-day.invariant.walked
