use Rattle.break_layers.proofs.Common.{◌≡◌, ◌++◌, ◌∷◌, [], ℤ, sym, ap, subst, ◌∙◌, append_assoc, append-nil, to_z, of_z, w64, to_z-of_z, nexts_of, spot_of, Has, has_middle}
use Rattle.break_layers.proofs.Following.{ReachOthers, others_more, first_leads, legal_without}
use Rattle.break_layers.proofs.lists.first_reaching.Goals as goal

pub returns-then-reach_at-whole : goal.returns-then-reach_at-whole
returns-then-reach_at-whole c = λ list value walk is most e.
    let rule = c.args.rule.now in
    let len = c.args.len in
    let sums = c.args.sums.now in
    let b = c.in-Some.next in
    let all : c.loop-next.yielded ++ b ∷ c.next.new.self ≡ nexts_of rule len c.args.spot =
    ap (λ rest. c.loop-next.yielded ++ rest) (sym c.in-Some.ensures.steps) ∙ c.loop-next.invariant.whole in
    let has : Has (nexts_of rule len c.args.spot) b = subst (λ bs. Has bs b) all (has_middle c.loop-next.yielded c.next.new.self b) in
    let own : to_z w64 (of_z w64 c.args.whole) ≡ c.args.whole = to_z-of_z w64 c.args.whole c.ranges.whole in
    let equal : c.reach_at.result ≡ c.args.whole = sym (to_z-of_z w64 c.reach_at.result (record { sfits = c.reach_at.type_inv })) ∙ ap (to_z w64) c.if-reach_at-whole.true ∙ own in
    first_leads rule len sums list c.requires.rule c.requires.sums value c.args.whole most e c.loop-next.yielded b c.next.new.self c.reach_at.result
    (sym (all ∙ ap (nexts_of rule len) is))
    (subst (λ (z : ℤ). ReachOthers rule len sums list z c.loop-next.yielded) own (c.loop-next.invariant.others list walk is))
    (c.reach_at.ensures list walk is has) equal

pub loop-next-preserved : goal.loop-next-preserved
loop-next-preserved c =
    let rule = c.args.rule.now in
    let len = c.args.len in
    let sums = c.args.sums.now in
    let b = c.in-Some.next in
    let all : c.loop-next.yielded ++ b ∷ c.next.new.self ≡ nexts_of rule len c.args.spot =
    ap (λ rest. c.loop-next.yielded ++ rest) (sym c.in-Some.ensures.steps) ∙ c.loop-next.invariant.whole in
    let has : Has (nexts_of rule len c.args.spot) b = subst (λ bs. Has bs b) all (has_middle c.loop-next.yielded c.next.new.self b) in
    record {
      can_next = tt;
      is_finite = tt;
      whole = append_assoc c.loop-next.yielded (b ∷ []) c.next.new.self ∙ all;
      others = λ list walk is. others_more rule len sums list (to_z w64 (of_z w64 c.args.whole)) c.loop-next.yielded b c.reach_at.result (c.loop-next.invariant.others list walk is)
          (c.reach_at.ensures list walk is has)
          (λ e. c.if-reach_at-whole.false (ap (of_z w64) (e ∙ to_z-of_z w64 c.args.whole c.ranges.whole)));
    }

pub returns : goal.returns
returns c = λ list value walk is most e.
    let rule = c.args.rule.now in
    let len = c.args.len in
    let sums = c.args.sums.now in
    let all : c.loop-next.yielded ≡ nexts_of rule len (spot_of rule list) =
    sym (append-nil c.loop-next.yielded) ∙ ap (λ rest. c.loop-next.yielded ++ rest) (sym c.in-None.ensures.steps.0) ∙ c.loop-next.invariant.whole ∙ ap (nexts_of rule len) is in
    legal_without rule len sums list c.requires.rule c.requires.sums value c.args.whole most e
    (subst (ReachOthers rule len sums list c.args.whole) all
    (subst (λ (z : ℤ). ReachOthers rule len sums list z c.loop-next.yielded) (to_z-of_z w64 c.args.whole c.ranges.whole) (c.loop-next.invariant.others list walk is)))
