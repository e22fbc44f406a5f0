use Rattle.break_layers.proofs.Common.{◌≡◌, ◌++◌, ◌∷◌, [], true, false, sym, ap, subst, ◌∙◌, append_assoc, append-nil, Spot, is_live, nexts_of, spot_of, is_walk, Has, has_middle, walk_on, from_next}
use Rattle.break_layers.proofs.LiveWays.{live_by_value, ways_by, way_more, no_way_more}
use Rattle.break_layers.proofs.ways.live_ways.Goals as goal

pub loop-stop-preserved-in-Continue-1 : goal.loop-stop-preserved-in-Continue-1
loop-stop-preserved-in-Continue-1 c =
    let rule = c.args.rule.now in
    let len = c.args.len in
    let b = c.in-Some.stop in
    let all : c.loop-stop.yielded ++ b ∷ c.next.new.self ≡ nexts_of rule len c.args.spot =
    ap (λ rest. c.loop-stop.yielded ++ rest) (sym c.in-Some.ensures.steps) ∙ c.loop-stop.invariant.whole in
    let has : Has (nexts_of rule len c.args.spot) b = subst (λ bs. Has bs b) all (has_middle c.loop-stop.yielded c.next.new.self b) in
    record {
      can_next = tt;
      is_finite = tt;
      whole = append_assoc c.loop-stop.yielded (b ∷ []) c.next.new.self ∙ all;
      exact = λ sums list small layers walk is.
          let behind : c.after-behind.result ≡ spot_of rule (list ++ b ∷ []) = c.after-behind.ensures list is (len, c.ranges.len.fits, from_next rule len c.args.spot b has) in
          let on : is_walk rule len (list ++ b ∷ []) ≡ true = walk_on rule len list b walk (subst (λ (s : Spot). Has (nexts_of rule len s) b) is has) in
          let live : is_live rule len (list ++ b ∷ []) ≡ true =
          sym (live_by_value rule len sums (list ++ b ∷ []) c.value_in.result (c.value_in.ensures sums (list ++ b ∷ []) small layers on behind)) ∙ sym c.is_some.ensures ∙ c.if-is_some.true in
          c.in_ok-push.ensures.items
          ∙ ap (λ (s : Spot). c.loop-stop.ways.items ++ record { stop = b; spot = s } ∷ []) behind
          ∙ way_more rule len list c.loop-stop.ways.items c.loop-stop.yielded b (c.loop-stop.invariant.exact sums list small layers walk is) live;
    }

pub loop-stop-preserved : goal.loop-stop-preserved
loop-stop-preserved c =
    let rule = c.args.rule.now in
    let len = c.args.len in
    let b = c.in-Some.stop in
    let all : c.loop-stop.yielded ++ b ∷ c.next.new.self ≡ nexts_of rule len c.args.spot =
    ap (λ rest. c.loop-stop.yielded ++ rest) (sym c.in-Some.ensures.steps) ∙ c.loop-stop.invariant.whole in
    let has : Has (nexts_of rule len c.args.spot) b = subst (λ bs. Has bs b) all (has_middle c.loop-stop.yielded c.next.new.self b) in
    record {
      can_next = tt;
      is_finite = tt;
      whole = append_assoc c.loop-stop.yielded (b ∷ []) c.next.new.self ∙ all;
      exact = λ sums list small layers walk is.
          let behind : c.after-behind.result ≡ spot_of rule (list ++ b ∷ []) = c.after-behind.ensures list is (len, c.ranges.len.fits, from_next rule len c.args.spot b has) in
          let on : is_walk rule len (list ++ b ∷ []) ≡ true = walk_on rule len list b walk (subst (λ (s : Spot). Has (nexts_of rule len s) b) is has) in
          let dead : is_live rule len (list ++ b ∷ []) ≡ false =
          sym (live_by_value rule len sums (list ++ b ∷ []) c.value_in.result (c.value_in.ensures sums (list ++ b ∷ []) small layers on behind)) ∙ sym c.is_some.ensures ∙ c.if-is_some.false in
          no_way_more rule len list c.loop-stop.ways.items c.loop-stop.yielded b (c.loop-stop.invariant.exact sums list small layers walk is) dead;
    }

pub returns : goal.returns
returns c = λ sums list small layers walk is.
    let rule = c.args.rule.now in
    let len = c.args.len in
    let all : c.loop-stop.yielded ≡ nexts_of rule len (spot_of rule list) =
    sym (append-nil c.loop-stop.yielded) ∙ ap (λ rest. c.loop-stop.yielded ++ rest) (sym c.in-None.ensures.steps.0) ∙ c.loop-stop.invariant.whole ∙ ap (nexts_of rule len) is in
    c.loop-stop.invariant.exact sums list small layers walk is ∙ ap (ways_by rule len list) all
