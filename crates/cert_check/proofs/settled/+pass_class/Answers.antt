use Rattle.cert_check.proofs.Common.{◌≡◌, ◌++◌, ◌∷◌, [], Some, None, Bool, ◌+◌, ◌<◌, ◌==◌, length, take, drop, true, false, List, slice_index_or, arith, sym, ap, subst, ◌∙◌, flat_map, take_all, WalkWay, Duty, Class, high, class_of, IsWalked, StandsOn, IsClear, duties_below, both_ok, index_get, flat_map_taken, flat_map_split, whole_duties, part_duties, closed_walked, clear_more, stands_next, IsPassed}
use Rattle.std.proofs.Common.{slice_get}
use Rattle.list_walks.specs.Stands.{AreWaysOn}
use Rattle.cert_check.proofs.Passing.{all_passed, none_open, more_passed, stop_passed, whole_passed}
use Rattle.cert_check.proofs.settled.+pass_class.Goals as goal

pub returns-then-high-eq0 : goal.returns-then-high-eq0
returns-then-high-eq0 t c =
    let i = c.args.instance.now in
    let cuts = c.args.cuts.now in
    let lists = c.args.lists.now in
    let s = c.args.class.now.shift in
    let day = c.args.class.now.day in
    let list = c.args.class.now.prefix in
    all_passed i cuts (duties_below i s day list) c.args.rows.now.items c.args.rows.now.items (closed_walked i cuts s day list c.args.rows.now.items (sym c.range-low.ensures.high ∙ c.if-high-eq0.true))

pub returns-then-is_empty : goal.returns-then-is_empty
returns-then-is_empty t c =
    let i = c.args.instance.now in
    let cuts = c.args.cuts.now in
    let lists = c.args.lists.now in
    let s = c.args.class.now.shift in
    let day = c.args.class.now.day in
    let list = c.args.class.now.prefix in
    let ways = c.in_ok-onward.onward.items in
    let same_ways : c.as_slice-ways.result.now ≡ ways = c.as_slice-ways.ensures.value in
    let on : AreWaysOn lists c.args.at list ways = c.in_ok-onward.ensures list c.requires.stands.1 in
    let room : 0 < high i cuts (class_of s day list) = omega (arith, c.if-high-eq0.false, c.range-low.ensures.high) in
    let empty : (length ways == 0) ≡ true = ap (λ (vs : List WalkWay). length vs == 0) (sym same_ways) ∙ sym c.is_empty.ensures ∙ c.if-is_empty.true in
    let only = whole_duties i cuts s day lists c.args.at list ways c.requires.stands on empty in
    both_ok c.pass.result _ _ _ c.pass.ensures.fixed c.pass.ensures.rows (λ fixed is rows.
    whole_passed i cuts s day list fixed c.args.rows.now.items c.pass.new.rows.items c.range-low.result.0 c.range-low.result.1 c.requires.clear room only c.range-low.ensures.low c.range-low.ensures.high is rows)

pub pass_class-requires : goal.pass_class-requires
pass_class-requires t c =
    let i = c.args.instance.now in
    let cuts = c.args.cuts.now in
    let lists = c.args.lists.now in
    let s = c.args.class.now.shift in
    let day = c.args.class.now.day in
    let list = c.args.class.now.prefix in
    let ways = c.in_ok-onward.onward.items in
    let same_ways : c.as_slice-ways.result.now ≡ ways = c.as_slice-ways.ensures.value in
    let on : AreWaysOn lists c.args.at list ways = c.in_ok-onward.ensures list c.requires.stands.1 in
    let ws = c.as_slice-ways.result.now in
    let k = c.loop-way.way-index in
    let none : WalkWay = record { stop = record { start = 0; len = 0 }; at = record { spot = record { offset = 0; used = 0; lunches = 0 }; node = 0 } } in
    let w : WalkWay = slice_index_or ws k none in
    let longer : c.in_ok-longer.longer ≡ class_of s day (list ++ w.stop ∷ []) = c.in_ok-longer.ensures in
    let room : 0 < high i cuts (class_of s day list) = omega (arith, c.if-high-eq0.false, c.range-low.ensures.high) in
    let next = stands_next i cuts s day lists c.args.at list ways k w c.requires.stands on (subst (λ (vs : List WalkWay). slice_get vs k ≡ Some w) same_ways (index_get ws k none c.loop-way-test.true)) in (
      omega (arith, next.0, c.decreases),
      (
        subst (λ (q : Class). StandsOn i q.shift lists w.at q.prefix) (sym longer) next.1,
        subst (λ (q : Class). IsClear i cuts q.shift q.day q.prefix) (sym longer) (clear_more i cuts s day list w.stop c.requires.clear room),
      ),
    )

pub returns-then-not-fixed : goal.returns-then-not-fixed
returns-then-not-fixed t c =
    let i = c.args.instance.now in
    let cuts = c.args.cuts.now in
    let lists = c.args.lists.now in
    let s = c.args.class.now.shift in
    let day = c.args.class.now.day in
    let list = c.args.class.now.prefix in
    let ways = c.in_ok-onward.onward.items in
    let same_ways : c.as_slice-ways.result.now ≡ ways = c.as_slice-ways.ensures.value in
    let on : AreWaysOn lists c.args.at list ways = c.in_ok-onward.ensures list c.requires.stands.1 in
    let ws = c.as_slice-ways.result.now in
    let k = c.loop-way.way-index in
    let none : WalkWay = record { stop = record { start = 0; len = 0 }; at = record { spot = record { offset = 0; used = 0; lunches = 0 }; node = 0 } } in
    let w : WalkWay = slice_index_or ws k none in
    let longer : c.in_ok-longer.longer ≡ class_of s day (list ++ w.stop ∷ []) = c.in_ok-longer.ensures in
    let some : (length ways == 0) ≡ false = ap (λ (vs : List WalkWay). length vs == 0) (sym same_ways) ∙ sym c.is_empty.ensures ∙ c.if-is_empty.false in
    let f : WalkWay → List Duty = λ w. duties_below i s day (list ++ w.stop ∷ []) in
    let below : IsPassed i cuts (f w) c.in_ok-fixed.fixed c.loop-way.rows.items c.pass_class.new.rows.items =
    subst (λ (q : Class). IsPassed i cuts (duties_below i q.shift q.day q.prefix) c.in_ok-fixed.fixed c.loop-way.rows.items c.pass_class.new.rows.items) longer c.in_ok-fixed.ensures in
    let more : IsPassed i cuts (flat_map f (take (k + 1) ws)) c.in_ok-fixed.fixed c.args.rows.now.items c.pass_class.new.rows.items =
    subst (λ ds. IsPassed i cuts ds c.in_ok-fixed.fixed c.args.rows.now.items c.pass_class.new.rows.items) (sym (flat_map_taken f ws k none c.loop-way-test.true))
    (more_passed i cuts (flat_map f (take k ws)) (f w) c.in_ok-fixed.fixed c.args.rows.now.items c.loop-way.rows.items c.pass_class.new.rows.items c.loop-way.invariant below) in
    subst (λ (b : Bool). IsPassed i cuts (duties_below i s day list) b c.args.rows.now.items c.pass_class.new.rows.items) c.if-not-fixed.true
    (subst (λ ds. IsPassed i cuts ds c.in_ok-fixed.fixed c.args.rows.now.items c.pass_class.new.rows.items)
    (sym (flat_map_split f ws (k + 1)) ∙ ap (flat_map f) same_ways ∙ sym (part_duties i cuts s day lists c.args.at list ways c.requires.stands on some))
    (stop_passed i cuts (flat_map f (take (k + 1) ws)) (flat_map f (drop (k + 1) ws)) c.in_ok-fixed.fixed c.args.rows.now.items c.pass_class.new.rows.items c.if-not-fixed.true more))

pub loop-way-preserved : goal.loop-way-preserved
loop-way-preserved t c =
    let i = c.args.instance.now in
    let cuts = c.args.cuts.now in
    let lists = c.args.lists.now in
    let s = c.args.class.now.shift in
    let day = c.args.class.now.day in
    let list = c.args.class.now.prefix in
    let ws = c.as_slice-ways.result.now in
    let k = c.loop-way.way-index in
    let none : WalkWay = record { stop = record { start = 0; len = 0 }; at = record { spot = record { offset = 0; used = 0; lunches = 0 }; node = 0 } } in
    let w : WalkWay = slice_index_or ws k none in
    let longer : c.in_ok-longer.longer ≡ class_of s day (list ++ w.stop ∷ []) = c.in_ok-longer.ensures in
    let f : WalkWay → List Duty = λ w. duties_below i s day (list ++ w.stop ∷ []) in
    let below : IsPassed i cuts (f w) c.in_ok-fixed.fixed c.loop-way.rows.items c.pass_class.new.rows.items =
    subst (λ (q : Class). IsPassed i cuts (duties_below i q.shift q.day q.prefix) c.in_ok-fixed.fixed c.loop-way.rows.items c.pass_class.new.rows.items) longer c.in_ok-fixed.ensures in
    let more : IsPassed i cuts (flat_map f (take (k + 1) ws)) c.in_ok-fixed.fixed c.args.rows.now.items c.pass_class.new.rows.items =
    subst (λ ds. IsPassed i cuts ds c.in_ok-fixed.fixed c.args.rows.now.items c.pass_class.new.rows.items) (sym (flat_map_taken f ws k none c.loop-way-test.true))
    (more_passed i cuts (flat_map f (take k ws)) (f w) c.in_ok-fixed.fixed c.args.rows.now.items c.loop-way.rows.items c.pass_class.new.rows.items c.loop-way.invariant below) in
    none_open i cuts (flat_map f (take (k + 1) ws)) c.in_ok-fixed.fixed c.args.rows.now.items c.pass_class.new.rows.items more c.if-not-fixed.false

pub returns : goal.returns
returns t c =
    let i = c.args.instance.now in
    let cuts = c.args.cuts.now in
    let lists = c.args.lists.now in
    let s = c.args.class.now.shift in
    let day = c.args.class.now.day in
    let list = c.args.class.now.prefix in
    let ways = c.in_ok-onward.onward.items in
    let same_ways : c.as_slice-ways.result.now ≡ ways = c.as_slice-ways.ensures.value in
    let on : AreWaysOn lists c.args.at list ways = c.in_ok-onward.ensures list c.requires.stands.1 in
    let some : (length ways == 0) ≡ false = ap (λ (vs : List WalkWay). length vs == 0) (sym same_ways) ∙ sym c.is_empty.ensures ∙ c.if-is_empty.false in
    let f : WalkWay → List Duty = λ w. duties_below i s day (list ++ w.stop ∷ []) in
    let all : take c.loop-way.way-index c.as_slice-ways.result.now ≡ ways = take_all c.loop-way.way-index c.as_slice-ways.result.now (omega (arith, c.loop-way-test.false)) ∙ same_ways in
    all_passed i cuts (duties_below i s day list) c.args.rows.now.items c.loop-way.rows.items
    (subst (λ ds. IsWalked i cuts ds None c.args.rows.now.items c.loop-way.rows.items) (ap (flat_map f) all ∙ sym (part_duties i cuts s day lists c.args.at list ways c.requires.stands on some)) c.loop-way.invariant)
