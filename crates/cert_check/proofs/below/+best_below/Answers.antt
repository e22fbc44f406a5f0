use Rattle.cert_check.proofs.Common.{◌≡◌, ◌+ℤ◌, ◌-ℤ◌, ◌-◌, ℕ, ℤ, List, [], ◌∷◌, ◌++◌, Some, None, map, take, ap, sym, subst, ◌∙◌, arith, to_z, of_z, false, FitsSigned, ◌^◌, ◌≤◌, ◌<◌, w64, w128, unsigned_abs, to_z-of_z, fits_signed_from_abs, Break, Spot, end_of_all, live_from, live_nexts, sum_at, resumes, Completes, sums_on, Through, IsGreatest, IsGreatestOf, whole_worth, bonuses, duty_with, goes_further, AreWays}
use Rattle.cert_check.proofs.Greatest.{greatest_none, greatest_some, legal_alone}
use Rattle.cert_check.proofs.Values.{before_of, before_fits}
use Rattle.cert_check.proofs.WaysOn.{way_more, way_place, way_nearer, ways_all}
use Rattle.cert_check.proofs.Whole.{whole_stops, whole_ends, whole_via, greatest_whole_small}
use Rattle.cert_check.proofs.below.+best_below.Goals as goal

pub returns-then-not-goes_further-clause-greatest : goal.returns-then-not-goes_further-clause-greatest
returns-then-not-goes_further-clause-greatest g t c =
    let cuts = c.args.duties.now.cuts.now in
    let prices = c.args.duties.now.prices.now in
    let s = c.args.duties.now.shift in
    let day = c.args.duties.now.day in
    let rule = c.args.work.now.rule.now in
    let len = c.args.work.now.len in
    let sums = sums_on c.args.duties.now.day c.args.work.now.sums.now in
    let list = c.args.list.now in
    let v : ℤ = c.value.result in
    let most = c.value.ensures rule len sums list c.requires.stands in
    let read : to_z w64 (of_z w64 c.value.result) ≡ v = to_z-of_z w64 _ (record { sfits = c.value.type_inv }) in
    let added : to_z w128 (of_z w128 c.bonuses.result) ≡ bonuses cuts prices (duty_with s day list) = to_z-of_z w128 _ (record { sfits = c.bonuses.type_inv }) ∙ c.bonuses.ensures.bonuses in
    let alone : to_z w128 (of_z w128 c.earned_and-alone.result) ≡ v +ℤ bonuses cuts prices (duty_with s day list) =
    to_z-of_z w128 _ (record { sfits = c.earned_and-alone.type_inv }) ∙ c.earned_and-alone.ensures ∙ ap (λ (z : ℤ). z +ℤ to_z w128 (of_z w128 c.bonuses.result)) read ∙ ap (λ (z : ℤ). v +ℤ z) added in
    let stops : goes_further cuts s day list ≡ false = sym c.goes_further.ensures ∙ c.if-not-goes_further.true in
    subst (IsGreatest (Completes rule len list) (whole_worth cuts prices s day sums rule len list)) (sym alone) (whole_stops cuts prices s day sums rule len list v stops most)

pub loop-way-init : goal.loop-way-init
loop-way-init g t c =
    let cuts = c.args.duties.now.cuts.now in
    let prices = c.args.duties.now.prices.now in
    let s = c.args.duties.now.shift in
    let day = c.args.duties.now.day in
    let rule = c.args.work.now.rule.now in
    let len = c.args.work.now.len in
    let sums = sums_on c.args.duties.now.day c.args.work.now.sums.now in
    let list = c.args.list.now in
    greatest_none rule len list (whole_worth cuts prices s day sums rule len list)

pub best_below-requires : goal.best_below-requires
best_below-requires g t c = λ κs outlives.
    let rule = c.args.work.now.rule.now in
    let len = c.args.work.now.len in
    let sums = sums_on c.args.duties.now.day c.args.work.now.sums.now in
    let list = c.args.list.now in
    let ways = c.as_slice-way-items.result.now in
    let way = c.way-item.result in
    let stands = g.W.Walk.stands c.args.walk.now rule len sums in
    let are = subst (AreWays stands rule len list) (sym c.as_slice-way-items.ensures.value) (c.in_ok-ways.ensures rule len sums list c.requires.stands) in
    let nearer = way_nearer stands rule len list ways are c.loop-way.way-index way c.loop-way-test.true c.way-item.is in
    let at = way_place stands rule len list ways are c.loop-way.way-index way c.loop-way-test.true c.way-item.is in
    let same : c.deref.result.now ≡ list ++ way.0 ∷ [] = c.deref.ensures.value ∙ c.in_ok-longer.ensures in
    let smaller : len - end_of_all c.deref.result.now < t = subst (λ (l : List Break). len - end_of_all l < t) (sym same) (omega (arith, nearer, c.decreases)) in
    (smaller, (outlives.0, (outlives.1, (c.requires.rule, (c.requires.day, (c.requires.sums, (c.requires.count, (c.requires.few, (c.requires.small, subst (stands way.1) (sym same) at)))))))))

pub loop-way-preserved : goal.loop-way-preserved
loop-way-preserved g t c =
    let cuts = c.args.duties.now.cuts.now in
    let prices = c.args.duties.now.prices.now in
    let s = c.args.duties.now.shift in
    let day = c.args.duties.now.day in
    let rule = c.args.work.now.rule.now in
    let len = c.args.work.now.len in
    let sums = sums_on c.args.duties.now.day c.args.work.now.sums.now in
    let list = c.args.list.now in
    let ways = c.as_slice-way-items.result.now in
    let way = c.way-item.result in
    let i = c.loop-way.way-index in
    let b : Break = way.0 in
    let stands = g.W.Walk.stands c.args.walk.now rule len sums in
    let are = subst (AreWays stands rule len list) (sym c.as_slice-way-items.ensures.value) (c.in_ok-ways.ensures rule len sums list c.requires.stands) in
    let same : c.deref.result.now ≡ list ++ b ∷ [] = c.deref.ensures.value ∙ c.in_ok-longer.ensures in
    let from : c.resumption-from.result ≡ resumes rule (end_of_all list) = c.resumption-from.ensures ∙ ap (λ (p : Spot). resumes rule p.offset) (c.spot.ensures rule len sums list c.requires.stands) in
    let w : ℤ = to_z w128 (of_z w128 c.in_ok-behind.behind) in
    let step : sum_at sums c.from.result -ℤ sum_at sums c.resumption-from.result ≡ before_of sums rule list b =
    ap (λ (n : ℕ). sum_at sums n -ℤ sum_at sums c.resumption-from.result) c.from.ensures ∙ ap (λ (n : ℕ). sum_at sums b.start -ℤ sum_at sums n) from in
    let before : to_z w64 (of_z w64 c.stretch_on-before.result) ≡ before_of sums rule list b =
    to_z-of_z w64 _ (record { sfits = c.stretch_on-before.type_inv }) ∙ c.stretch_on-before.ensures (subst (FitsSigned w64) (sym step) (before_fits sums rule len list b c.requires.sums)) ∙ step in
    let v : ℤ = to_z w128 (of_z w128 c.earned_and.result) in
    let is : v ≡ before_of sums rule list b +ℤ w = to_z-of_z w128 _ (record { sfits = c.earned_and.type_inv }) ∙ c.earned_and.ensures ∙ ap (λ (z : ℤ). z +ℤ w) before in
    let kept : w ≡ c.in_ok-behind.behind = to_z-of_z w128 _ (fits_signed_from_abs w128 _ (let size = c.in_ok-behind.ensures.size in omega arith)) in
    let behind : IsGreatest (Completes rule len (list ++ b ∷ [])) (whole_worth cuts prices s day sums rule len (list ++ b ∷ [])) w =
    subst (IsGreatest (Completes rule len (list ++ b ∷ [])) (whole_worth cuts prices s day sums rule len (list ++ b ∷ []))) (sym kept)
    (subst (λ (l : List Break). IsGreatest (Completes rule len l) (whole_worth cuts prices s day sums rule len l) c.in_ok-behind.behind) same c.in_ok-behind.ensures.greatest) in
    subst (λ (bs : List Break). IsGreatest (Through rule len list bs) (whole_worth cuts prices s day sums rule len list) (to_z w128 (of_z w128 c.greater.result))) (sym (way_more stands rule len list ways are i way c.loop-way-test.true c.way-item.is))
    (subst (IsGreatest (Through rule len list (map (λ w. w.0) (take i ways) ++ b ∷ [])) (whole_worth cuts prices s day sums rule len list)) (sym (to_z-of_z w128 _ (record { sfits = c.greater.type_inv }) ∙ c.greater.ensures))
    (whole_via cuts prices s day sums rule len list (map (λ w. w.0) (take i ways)) b c.loop-way.best w v c.requires.rule c.loop-way.invariant behind is))

kept : (v : ℤ) → unsigned_abs v ≤ 2 ^ 74 → to_z w128 (of_z w128 v) ≡ v
kept v small = to_z-of_z w128 v (fits_signed_from_abs w128 v (omega arith))

pub returns-in-Some-clause-greatest : goal.returns-in-Some-clause-greatest
returns-in-Some-clause-greatest g t c =
    let cuts = c.args.duties.now.cuts.now in
    let prices = c.args.duties.now.prices.now in
    let s = c.args.duties.now.shift in
    let day = c.args.duties.now.day in
    let rule = c.args.work.now.rule.now in
    let len = c.args.work.now.len in
    let sums = sums_on c.args.duties.now.day c.args.work.now.sums.now in
    let list = c.args.list.now in
    let ways = c.as_slice-way-items.result.now in
    let stands = g.W.Walk.stands c.args.walk.now rule len sums in
    let are = subst (AreWays stands rule len list) (sym c.as_slice-way-items.ensures.value) (c.in_ok-ways.ensures rule len sums list c.requires.stands) in
    let worth : List Break → ℤ = whole_worth cuts prices s day sums rule len list in
    let all : IsGreatest (Completes rule len list) worth c.in-Some.value =
    greatest_some rule len list worth c.in-Some.value
    (subst (λ (bs : List Break). IsGreatestOf (Through rule len list bs) worth (Some c.in-Some.value)) (ways_all stands rule len list ways are c.loop-way.way-index c.loop-way-test.false)
    (subst (IsGreatestOf (Through rule len list (map (λ w. w.0) (take c.loop-way.way-index ways))) worth) c.in-Some.is c.loop-way.invariant)) in
    subst (IsGreatest (Completes rule len list) worth) (sym (kept c.in-Some.value (greatest_whole_small cuts prices s day sums rule len list c.in-Some.value c.requires.sums c.requires.few c.requires.small all))) all

pub returns-in-Some-clause-size : goal.returns-in-Some-clause-size
returns-in-Some-clause-size g t c =
    let rule = c.args.work.now.rule.now in
    let len = c.args.work.now.len in
    let sums = sums_on c.args.duties.now.day c.args.work.now.sums.now in
    greatest_whole_small c.args.duties.now.cuts.now c.args.duties.now.prices.now c.args.duties.now.shift c.args.duties.now.day sums rule len c.args.list.now _
    c.requires.sums c.requires.few c.requires.small (returns-in-Some-clause-greatest g t c)

pub returns-clause-greatest : goal.returns-clause-greatest
returns-clause-greatest g t c =
    let cuts = c.args.duties.now.cuts.now in
    let prices = c.args.duties.now.prices.now in
    let s = c.args.duties.now.shift in
    let day = c.args.duties.now.day in
    let rule = c.args.work.now.rule.now in
    let len = c.args.work.now.len in
    let sums = sums_on c.args.duties.now.day c.args.work.now.sums.now in
    let list = c.args.list.now in
    let ways = c.as_slice-way-items.result.now in
    let stands = g.W.Walk.stands c.args.walk.now rule len sums in
    let are = subst (AreWays stands rule len list) (sym c.as_slice-way-items.ensures.value) (c.in_ok-ways.ensures rule len sums list c.requires.stands) in
    let worth : List Break → ℤ = whole_worth cuts prices s day sums rule len list in
    let none : IsGreatestOf (Through rule len list (live_nexts rule len list)) worth None =
    subst (λ (bs : List Break). IsGreatestOf (Through rule len list bs) worth None) (ways_all stands rule len list ways are c.loop-way.way-index c.loop-way-test.false)
    (subst (IsGreatestOf (Through rule len list (map (λ w. w.0) (take c.loop-way.way-index ways))) worth) c.in-None.is c.loop-way.invariant) in
    let v : ℤ = c.value.result in
    let most = c.value.ensures rule len sums list c.requires.stands in
    let read : to_z w64 (of_z w64 c.value.result) ≡ v = to_z-of_z w64 _ (record { sfits = c.value.type_inv }) in
    let added : to_z w128 (of_z w128 c.bonuses.result) ≡ bonuses cuts prices (duty_with s day list) = to_z-of_z w128 _ (record { sfits = c.bonuses.type_inv }) ∙ c.bonuses.ensures.bonuses in
    let alone : to_z w128 (of_z w128 c.earned_and-alone.result) ≡ v +ℤ bonuses cuts prices (duty_with s day list) =
    to_z-of_z w128 _ (record { sfits = c.earned_and-alone.type_inv }) ∙ c.earned_and-alone.ensures ∙ ap (λ (z : ℤ). z +ℤ to_z w128 (of_z w128 c.bonuses.result)) read ∙ ap (λ (z : ℤ). v +ℤ z) added in
    let live = live_from rule len list most.reached.0 most.reached.1 in
    subst (IsGreatest (Completes rule len list) worth) (sym alone) (whole_ends cuts prices s day sums rule len list v (legal_alone rule len list worth live none) most)
