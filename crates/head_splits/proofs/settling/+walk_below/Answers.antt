use Rattle.head_splits.proofs.Common.{◌≡◌, ◌++◌, ◌∷◌, [], nat_lt, None, Some, cond, ◌+◌, ◌<◌, ◌==◌, length, take, drop, true, false, List, slice_index_or, arith, sym, ap, subst, ◌∙◌, flat_map, take_all, WalkWay, AreWaysOn, Duty, low, high, class_of, row_of, IsWalked, StandsOn, IsClear, duties_below}
use Rattle.std.proofs.Common.{slice_get}
use Rattle.head_splits.proofs.Walked.{both_ok, no_some, index_get, flat_map_taken, flat_map_split, popped, more_walked, stop_walked, duty, whole_duties, part_duties, closed_walked, clear_more, whole_walked, stands_next}
use Rattle.head_splits.proofs.settling.+walk_below.Goals as goal

pub returns-then-high-eq0-clause-walked : goal.returns-then-high-eq0-clause-walked
returns-then-high-eq0-clause-walked t c =
    let i = c.args.instance.now in
    let cuts = c.args.cuts.now in
    let s = c.args.walk.now.place.shift in
    let day = c.args.walk.now.place.day in
    closed_walked i cuts s day c.args.walk.now.place.prefix.items c.args.walk.now.rows.items
    (sym (c.range_of-low.ensures i cuts c.requires.table).1 ∙ c.if-high-eq0.true)

pub returns-then-is_empty-clause-walked : goal.returns-then-is_empty-clause-walked
returns-then-is_empty-clause-walked t c =
    let i = c.args.instance.now in
    let cuts = c.args.cuts.now in
    let lists = c.args.lists.now in
    let s = c.args.walk.now.place.shift in
    let day = c.args.walk.now.place.day in
    let list = c.args.walk.now.place.prefix.items in
    let low_is : c.range_of-low.result.0 ≡ low cuts (class_of s day list) = (c.range_of-low.ensures i cuts c.requires.table).0 in
    let high_is : c.range_of-low.result.1 ≡ high i cuts (class_of s day list) = (c.range_of-low.ensures i cuts c.requires.table).1 in
    let room : 0 < high i cuts (class_of s day list) = omega (arith, c.if-high-eq0.false) in
    let ways = c.in_ok-onward.onward.items in
    let same_ways : c.as_slice-ways.result.now ≡ ways = c.as_slice-ways.ensures.value in
    let on : AreWaysOn lists c.args.at list ways = c.in_ok-onward.ensures list c.requires.stands.1 in
    let empty : (length ways == 0) ≡ true = ap (λ (vs : List WalkWay). length vs == 0) (sym same_ways) ∙ sym c.is_empty.ensures ∙ c.if-is_empty.true in
    let only = whole_duties i cuts s day lists c.args.at list ways c.requires.stands on empty in
    both_ok c.pass.result _ _ _ c.pass.ensures.found c.pass.ensures.rows (λ found is rows.
    whole_walked i cuts s day list found c.args.walk.now.rows.items c.pass.new.walk.rows.items c.requires.clear room only
    (subst (λ l. found ≡ cond (nat_lt l (high i cuts (class_of s day list))) (Some (duty i cuts s day list)) None) low_is (subst (λ h. found ≡ cond (nat_lt c.range_of-low.result.0 h) (Some (duty i cuts s day list)) None) high_is is))
    (λ none. subst (λ l. c.pass.new.walk.rows.items ≡ c.args.walk.now.rows.items ++ cond (nat_lt 0 l) (row_of (duty i cuts s day list) l ∷ []) []) low_is (rows none)))

pub walk_below-requires : goal.walk_below-requires
walk_below-requires t c =
    let i = c.args.instance.now in
    let cuts = c.args.cuts.now in
    let lists = c.args.lists.now in
    let s = c.args.walk.now.place.shift in
    let day = c.args.walk.now.place.day in
    let list = c.args.walk.now.place.prefix.items in
    let ws = c.as_slice-ways.result.now in
    let k = c.loop-way.way-index in
    let none : WalkWay = record { stop = record { start = 0; len = 0 }; at = record { spot = record { offset = 0; used = 0; lunches = 0 }; node = 0 } } in
    let w : WalkWay = slice_index_or ws k none in
    let ways = c.in_ok-onward.onward.items in
    let same_ways : c.as_slice-ways.result.now ≡ ways = c.as_slice-ways.ensures.value in
    let on : AreWaysOn lists c.args.at list ways = c.in_ok-onward.ensures list c.requires.stands.1 in
    let longer : list ++ w.stop ∷ [] ≡ c.push.new.self.items = ap (λ l. l ++ w.stop ∷ []) (sym c.loop-way.invariant.prefix) ∙ sym c.in_ok-push.ensures.items in
    let room : 0 < high i cuts (class_of s day list) = omega (arith, c.if-high-eq0.false, (c.range_of-low.ensures i cuts c.requires.table).1) in
    let next = stands_next i cuts s day lists c.args.at list ways k w c.requires.stands on (subst (λ (vs : List WalkWay). slice_get vs k ≡ Some w) same_ways (index_get ws k none c.loop-way-test.true)) in
    let stands : StandsOn i s lists w.at c.push.new.self.items = subst (StandsOn i s lists w.at) longer next.1 in
    let clear : IsClear i cuts s day c.push.new.self.items = subst (IsClear i cuts s day) longer (clear_more i cuts s day list w.stop c.requires.clear room) in (
      omega (arith, next.0, c.decreases),
      (
        c.requires.table,
        (
          subst (λ z. StandsOn i z lists w.at c.push.new.self.items) (sym c.loop-way.invariant.shift) stands,
          subst (λ z. IsClear i cuts z c.loop-way.walk.place.day c.push.new.self.items) (sym c.loop-way.invariant.shift) (subst (λ z. IsClear i cuts s z c.push.new.self.items) (sym c.loop-way.invariant.day) clear),
        ),
      ),
    )

pub returns-then-is_some-clause-walked : goal.returns-then-is_some-clause-walked
returns-then-is_some-clause-walked t c =
    let i = c.args.instance.now in
    let cuts = c.args.cuts.now in
    let lists = c.args.lists.now in
    let s = c.args.walk.now.place.shift in
    let day = c.args.walk.now.place.day in
    let list = c.args.walk.now.place.prefix.items in
    let ws = c.as_slice-ways.result.now in
    let k = c.loop-way.way-index in
    let none : WalkWay = record { stop = record { start = 0; len = 0 }; at = record { spot = record { offset = 0; used = 0; lunches = 0 }; node = 0 } } in
    let w : WalkWay = slice_index_or ws k none in
    let ways = c.in_ok-onward.onward.items in
    let same_ways : c.as_slice-ways.result.now ≡ ways = c.as_slice-ways.ensures.value in
    let on : AreWaysOn lists c.args.at list ways = c.in_ok-onward.ensures list c.requires.stands.1 in
    let longer : list ++ w.stop ∷ [] ≡ c.push.new.self.items = ap (λ l. l ++ w.stop ∷ []) (sym c.loop-way.invariant.prefix) ∙ sym c.in_ok-push.ensures.items in
    let some : (length ways == 0) ≡ false = ap (λ (vs : List WalkWay). length vs == 0) (sym same_ways) ∙ sym c.is_empty.ensures ∙ c.if-is_empty.false in
    let f : WalkWay → List Duty = λ w. duties_below i s day (list ++ w.stop ∷ []) in
    let same : duties_below i c.loop-way.walk.place.shift c.loop-way.walk.place.day c.push.new.self.items ≡ f w =
    ap (λ z. duties_below i z c.loop-way.walk.place.day c.push.new.self.items) c.loop-way.invariant.shift ∙ ap (λ z. duties_below i s z c.push.new.self.items) c.loop-way.invariant.day
    ∙ ap (duties_below i s day) (sym longer) in
    let below : IsWalked i cuts (f w) c.in_ok-found.found c.loop-way.walk.rows.items c.walk_below.new.walk.rows.items =
    subst (λ ds. IsWalked i cuts ds c.in_ok-found.found c.loop-way.walk.rows.items c.walk_below.new.walk.rows.items) same c.in_ok-found.ensures.walked in
    let more : IsWalked i cuts (flat_map f (take (k + 1) ws)) c.in_ok-found.found c.args.walk.now.rows.items c.walk_below.new.walk.rows.items =
    subst (λ ds. IsWalked i cuts ds c.in_ok-found.found c.args.walk.now.rows.items c.walk_below.new.walk.rows.items) (sym (flat_map_taken f ws k none c.loop-way-test.true))
    (more_walked i cuts (flat_map f (take k ws)) (f w) c.in_ok-found.found c.args.walk.now.rows.items c.loop-way.walk.rows.items c.walk_below.new.walk.rows.items c.loop-way.invariant.walked below) in
    subst (λ ds. IsWalked i cuts ds c.in_ok-found.found c.args.walk.now.rows.items c.walk_below.new.walk.rows.items)
    (sym (flat_map_split f ws (k + 1)) ∙ ap (flat_map f) same_ways ∙ sym (part_duties i cuts s day lists c.args.at list ways c.requires.stands on some))
    (stop_walked i cuts (flat_map f (take (k + 1) ws)) (flat_map f (drop (k + 1) ws)) c.in_ok-found.found c.args.walk.now.rows.items c.walk_below.new.walk.rows.items (sym c.is_some.ensures ∙ c.if-is_some.true) more)

pub loop-way-preserved : goal.loop-way-preserved
loop-way-preserved t c =
    let i = c.args.instance.now in
    let cuts = c.args.cuts.now in
    let lists = c.args.lists.now in
    let s = c.args.walk.now.place.shift in
    let day = c.args.walk.now.place.day in
    let list = c.args.walk.now.place.prefix.items in
    let ws = c.as_slice-ways.result.now in
    let k = c.loop-way.way-index in
    let none : WalkWay = record { stop = record { start = 0; len = 0 }; at = record { spot = record { offset = 0; used = 0; lunches = 0 }; node = 0 } } in
    let w : WalkWay = slice_index_or ws k none in
    let ways = c.in_ok-onward.onward.items in
    let same_ways : c.as_slice-ways.result.now ≡ ways = c.as_slice-ways.ensures.value in
    let on : AreWaysOn lists c.args.at list ways = c.in_ok-onward.ensures list c.requires.stands.1 in
    let longer : list ++ w.stop ∷ [] ≡ c.push.new.self.items = ap (λ l. l ++ w.stop ∷ []) (sym c.loop-way.invariant.prefix) ∙ sym c.in_ok-push.ensures.items in
    let f : WalkWay → List Duty = λ w. duties_below i s day (list ++ w.stop ∷ []) in
    let same : duties_below i c.loop-way.walk.place.shift c.loop-way.walk.place.day c.push.new.self.items ≡ f w =
    ap (λ z. duties_below i z c.loop-way.walk.place.day c.push.new.self.items) c.loop-way.invariant.shift ∙ ap (λ z. duties_below i s z c.push.new.self.items) c.loop-way.invariant.day
    ∙ ap (duties_below i s day) (sym longer) in
    let below : IsWalked i cuts (f w) c.in_ok-found.found c.loop-way.walk.rows.items c.walk_below.new.walk.rows.items =
    subst (λ ds. IsWalked i cuts ds c.in_ok-found.found c.loop-way.walk.rows.items c.walk_below.new.walk.rows.items) same c.in_ok-found.ensures.walked in
    let more : IsWalked i cuts (flat_map f (take (k + 1) ws)) c.in_ok-found.found c.args.walk.now.rows.items c.walk_below.new.walk.rows.items =
    subst (λ ds. IsWalked i cuts ds c.in_ok-found.found c.args.walk.now.rows.items c.walk_below.new.walk.rows.items) (sym (flat_map_taken f ws k none c.loop-way-test.true))
    (more_walked i cuts (flat_map f (take k ws)) (f w) c.in_ok-found.found c.args.walk.now.rows.items c.loop-way.walk.rows.items c.walk_below.new.walk.rows.items c.loop-way.invariant.walked below) in
    let nothing : c.in_ok-found.found ≡ None = no_some c.in_ok-found.found (sym c.is_some.ensures ∙ c.if-is_some.false) in
    let place = c.in_ok-found.ensures.place nothing in
    record {
      shift = place.0 ∙ c.loop-way.invariant.shift;
      day = place.1 ∙ c.loop-way.invariant.day;
      prefix = popped list w.stop c.walk_below.new.walk.place.prefix.items c.pop.new.self.items c.walk_below.new.walk.place.prefix.len (place.2 ∙ sym longer) c.walk_below.new.walk.place.prefix.ok.0 c.pop.ensures.rest;
      walked = subst (λ o. IsWalked i cuts (flat_map f (take (k + 1) ws)) o c.args.walk.now.rows.items c.walk_below.new.walk.rows.items) nothing more;
    }

pub returns-clause-walked : goal.returns-clause-walked
returns-clause-walked t c =
    let i = c.args.instance.now in
    let cuts = c.args.cuts.now in
    let lists = c.args.lists.now in
    let s = c.args.walk.now.place.shift in
    let day = c.args.walk.now.place.day in
    let list = c.args.walk.now.place.prefix.items in
    let ways = c.in_ok-onward.onward.items in
    let same_ways : c.as_slice-ways.result.now ≡ ways = c.as_slice-ways.ensures.value in
    let on : AreWaysOn lists c.args.at list ways = c.in_ok-onward.ensures list c.requires.stands.1 in
    let some : (length ways == 0) ≡ false = ap (λ (vs : List WalkWay). length vs == 0) (sym same_ways) ∙ sym c.is_empty.ensures ∙ c.if-is_empty.false in
    let f : WalkWay → List Duty = λ w. duties_below i s day (list ++ w.stop ∷ []) in
    let all : take c.loop-way.way-index c.as_slice-ways.result.now ≡ ways = take_all c.loop-way.way-index c.as_slice-ways.result.now (omega (arith, c.loop-way-test.false)) ∙ same_ways in
    subst (λ ds. IsWalked i cuts ds None c.args.walk.now.rows.items c.loop-way.walk.rows.items) (ap (flat_map f) all ∙ sym (part_duties i cuts s day lists c.args.at list ways c.requires.stands on some)) c.loop-way.invariant.walked
