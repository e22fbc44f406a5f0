use Rattle.greedy.proofs.Common.{◌≤◌, ◌∙◌, ℤ, List, get_or, ap, subst, sym, arith, Option, Some, None, day_value, AreAllKnown}
use Rattle.greedy.proofs.Keeping.{some_known}
use Rattle.greedy.proofs.known.kept_values.Goals.{then-is_none+in_ok-find_unknown, else-is_none+then-has_unknown+in_ok-values, else-is_none+else-has_unknown}
use Rattle.greedy.proofs.known.kept_values.Goals as goal

pub returns-clause-values : goal.returns-clause-values
returns-clause-values c =
    let i = c.args.instance.now in
    let s = c.args.shift in
    let prices = c.args.sums.now.prices in
    let week : i.days ≤ 7 = c.requires.prices.valid.days in
    let all : AreAllKnown i prices s c.if-is_none.known =
    elim c.if-is_none.branch [
      | then-is_none+in_ok-find_unknown w ↦ subst (λ (ds : List (Option ℤ)). AreAllKnown i prices s ds) (sym w.known-is) w.in_ok-find_unknown.ensures
      | else-is_none+then-has_unknown+in_ok-values w ↦
          subst (λ (ds : List (Option ℤ)). AreAllKnown i prices s ds) (sym w.known-is)
          (λ day less. w.known_days.ensures day (omega (arith, less, week)) ∙ ap (λ (z : ℤ). Some z) (w.in_ok-values.ensures day less))
      | else-is_none+else-has_unknown w ↦
          subst (λ (ds : List (Option ℤ)). AreAllKnown i prices s ds) (sym w.known-is)
          (λ day less. some_known (get_or c.args.known.now day None) (day_value i prices s day) (w.has_unknown.ensures w.if-has_unknown.false day less) (c.requires.known day less))
    ] in
    λ day less. c.values_known.ensures day (omega (arith, less, week)) (day_value i prices s day) (all day less)
