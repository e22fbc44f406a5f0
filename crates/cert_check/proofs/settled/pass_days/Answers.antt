use Rattle.cert_check.proofs.Common.{◌≡◌, ◌+◌, [], None, ℕ, Bool, List, arith, ap, subst, ◌∙◌, flat_map, Duty, below, Class, IsWalked, duties_below, shift_duties, shift_days, IsPassed}
use Rattle.cert_check.proofs.Passing.{all_passed, none_open, next_passed, stopped_passed}
use Rattle.cert_check.proofs.settled.pass_days.Goals as goal

pub returns-then-not-fixed : goal.returns-then-not-fixed
returns-then-not-fixed c =
    let i = c.args.instance.now in
    let cuts = c.args.cuts.now in
    let s = c.args.shift in
    let f : ℕ → List Duty = λ day. duties_below i s day [] in
    let fixed = c.in_ok-fixed.fixed in
    let before = c.args.rows.now.items in
    let after = c.pass_class.new.rows.items in
    let below_class : IsPassed i cuts (f c.loop-day.day) fixed c.loop-day.rows.items after =
    subst (λ (q : Class). IsPassed i cuts (duties_below i q.shift q.day q.prefix) fixed c.loop-day.rows.items after) c.whole_class-class.ensures c.in_ok-fixed.ensures in
    subst (λ (b : Bool). IsPassed i cuts (shift_duties i s) b before after) c.if-not-fixed.true
    (subst (λ ds. IsPassed i cuts ds fixed before after) (shift_days i cuts s)
    (stopped_passed i cuts f i.days c.loop-day.day fixed before after (omega (arith, c.loop-day-test.true, c.days-day-end.ensures.days)) c.if-not-fixed.true
    (next_passed i cuts f c.loop-day.day fixed before c.loop-day.rows.items after c.loop-day.invariant below_class)))

pub loop-day-preserved : goal.loop-day-preserved
loop-day-preserved c =
    let i = c.args.instance.now in
    let cuts = c.args.cuts.now in
    let s = c.args.shift in
    let f : ℕ → List Duty = λ day. duties_below i s day [] in
    let fixed = c.in_ok-fixed.fixed in
    let before = c.args.rows.now.items in
    let after = c.pass_class.new.rows.items in
    let below_class : IsPassed i cuts (f c.loop-day.day) fixed c.loop-day.rows.items after =
    subst (λ (q : Class). IsPassed i cuts (duties_below i q.shift q.day q.prefix) fixed c.loop-day.rows.items after) c.whole_class-class.ensures c.in_ok-fixed.ensures in
    none_open i cuts (flat_map f (below (c.loop-day.day + 1))) fixed before after
    (next_passed i cuts f c.loop-day.day fixed before c.loop-day.rows.items after c.loop-day.invariant below_class) c.if-not-fixed.false

pub returns : goal.returns
returns c =
    let i = c.args.instance.now in
    let cuts = c.args.cuts.now in
    let s = c.args.shift in
    let all : c.loop-day.day ≡ i.days = omega (arith, c.loop-day-test.false, c.loop-day.auto, c.days-day-end.ensures.days) in
    all_passed i cuts (shift_duties i s) c.args.rows.now.items c.loop-day.rows.items
    (subst (λ ds. IsWalked i cuts ds None c.args.rows.now.items c.loop-day.rows.items)
    (ap (λ n. flat_map (λ day. duties_below i s day []) (below n)) all ∙ shift_days i cuts s) c.loop-day.invariant)
