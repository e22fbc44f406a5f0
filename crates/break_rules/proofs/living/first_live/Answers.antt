use Rattle.break_rules.proofs.Common.{◌≡◌, inl, inr, Bool, true, false, ◌++◌, [], ◌∷◌, sym, ap, subst, ◌∙◌, append_assoc, append-nil, find, Break, is_live, nexts_of, Has}
use Rattle.break_rules.proofs.Lists.{Has-append_cases}
use Rattle.break_rules.proofs.Steps.{from_next}
use Rattle.break_rules.proofs.Reaching.{has_middle, live_behind, find_here, find_none}
use Rattle.break_rules.proofs.living.first_live.Goals as goal

pub returns-then-is_live_in : goal.returns-then-is_live_in
returns-then-is_live_in c = λ list walk is.
    let next = c.in-Some.next in
    let p : Break → Bool = λ b. is_live c.args.rule.now c.args.len (list ++ b ∷ []) in
    let all : c.loop-next.yielded ++ next ∷ c.next.new.self ≡ nexts_of c.args.rule.now c.args.len c.args.spot =
    ap (λ rest. c.loop-next.yielded ++ rest) (sym c.in-Some.ensures.steps) ∙ c.loop-next.invariant.whole in
    let has : Has (nexts_of c.args.rule.now c.args.len c.args.spot) next = subst (λ ns. Has ns next) all (has_middle c.loop-next.yielded c.next.new.self next) in
    let here : p next ≡ true =
    sym (live_behind c.args.rule.now c.args.len list c.args.spot c.after.result next c.args.table.now c.requires.rule c.requires.known walk is has (c.after.ensures list is (c.args.len, c.ranges.len.fits, from_next c.args.rule.now c.args.len c.args.spot next has)))
    ∙ sym c.is_live_in.ensures ∙ c.if-is_live_in.true in
    sym (ap (find p) (sym all) ∙ find_here p c.loop-next.yielded next c.next.new.self (c.loop-next.invariant.dead list walk is) here)

pub loop-next-preserved : goal.loop-next-preserved
loop-next-preserved c =
    let next = c.in-Some.next in
    let all : c.loop-next.yielded ++ next ∷ c.next.new.self ≡ nexts_of c.args.rule.now c.args.len c.args.spot =
    ap (λ rest. c.loop-next.yielded ++ rest) (sym c.in-Some.ensures.steps) ∙ c.loop-next.invariant.whole in
    let has : Has (nexts_of c.args.rule.now c.args.len c.args.spot) next = subst (λ ns. Has ns next) all (has_middle c.loop-next.yielded c.next.new.self next) in
    record {
      can_next = tt;
      is_finite = tt;
      whole = append_assoc c.loop-next.yielded (next ∷ []) c.next.new.self ∙ all;
      dead = λ list walk is b m.
          let here : is_live c.args.rule.now c.args.len (list ++ next ∷ []) ≡ false =
          sym (live_behind c.args.rule.now c.args.len list c.args.spot c.after.result next c.args.table.now c.requires.rule c.requires.known walk is has (c.after.ensures list is (c.args.len, c.ranges.len.fits, from_next c.args.rule.now c.args.len c.args.spot next has)))
          ∙ sym c.is_live_in.ensures ∙ c.if-is_live_in.false in
          elim (Has-append_cases c.loop-next.yielded (next ∷ []) b m) [
            | inl before ↦ c.loop-next.invariant.dead list walk is b before
            | inr last ↦ elim last [ inl e ↦ subst (λ (x : Break). is_live c.args.rule.now c.args.len (list ++ x ∷ []) ≡ false) e here | inr none ↦ absurd none ]
          ];
    }

pub returns : goal.returns
returns c = λ list walk is.
    let p : Break → Bool = λ b. is_live c.args.rule.now c.args.len (list ++ b ∷ []) in
    let all : c.loop-next.yielded ≡ nexts_of c.args.rule.now c.args.len c.args.spot =
    sym (append-nil c.loop-next.yielded) ∙ ap (λ rest. c.loop-next.yielded ++ rest) (sym c.in-None.ensures.steps.0) ∙ c.loop-next.invariant.whole in
    sym (ap (find p) (sym all) ∙ find_none p c.loop-next.yielded (c.loop-next.invariant.dead list walk is))
