use Rattle.break_layers.proofs.Common.{◌≡◌, ◌++◌, ◌∷◌, [], inl, inr, true, sym, ap, subst, ◌∙◌, append_assoc, append-nil, false≢true, false_from_ne_true, Break, may_follow, nexts_of, same_break_decides, Has, Has-append_cases, has_middle, from_next, has_next}
use Rattle.break_layers.proofs.walks.may_come.Goals as goal

pub returns-then-eq : goal.returns-then-eq
returns-then-eq c =
    let next = c.in-Some.next in
    let all : c.loop-next.yielded ++ next ∷ c.next.new.self ≡ nexts_of c.args.rule.now c.args.len c.args.spot =
    ap (λ rest. c.loop-next.yielded ++ rest) (sym c.in-Some.ensures.steps) ∙ c.loop-next.invariant.whole in
    let has : Has (nexts_of c.args.rule.now c.args.len c.args.spot) next = subst (λ bs. Has bs next) all (has_middle c.loop-next.yielded c.next.new.self next) in
    let same : next ≡ c.args.stop = (same_break_decides next c.args.stop).0 (sym c.eq.ensures ∙ c.if-eq.true) in
    sym (subst (λ (b : Break). may_follow c.args.rule.now c.args.len c.args.spot.offset c.args.spot.used b ≡ true) same (from_next c.args.rule.now c.args.len c.args.spot next has))

pub loop-next-preserved : goal.loop-next-preserved
loop-next-preserved c =
    let next = c.in-Some.next in
    record {
      can_next = tt;
      is_finite = tt;
      whole = append_assoc c.loop-next.yielded (next ∷ []) c.next.new.self ∙ ap (λ rest. c.loop-next.yielded ++ rest) (sym c.in-Some.ensures.steps) ∙ c.loop-next.invariant.whole;
      others = λ m. elim (Has-append_cases c.loop-next.yielded (next ∷ []) c.args.stop m) [
        | inl before ↦ c.loop-next.invariant.others before
        | inr last ↦ elim last [ inl same ↦ false≢true (sym (sym c.eq.ensures ∙ c.if-eq.false) ∙ (same_break_decides next c.args.stop).1 same) | inr none ↦ none ]
      ];
    }

pub returns : goal.returns
returns c =
    let all : c.loop-next.yielded ≡ nexts_of c.args.rule.now c.args.len c.args.spot =
    sym (append-nil c.loop-next.yielded) ∙ ap (λ rest. c.loop-next.yielded ++ rest) (sym c.in-None.ensures.steps.0) ∙ c.loop-next.invariant.whole in
    sym (false_from_ne_true (may_follow c.args.rule.now c.args.len c.args.spot.offset c.args.spot.used c.args.stop)
    (λ h. c.loop-next.invariant.others (subst (λ bs. Has bs c.args.stop) (sym all) (has_next c.args.rule.now c.args.len c.args.spot c.args.stop h))))
