use Rattle.short_slots.proofs.Common.{◌≡◌, ℕ, ℤ, ◌<◌, false, Option, Some, List, ap, sym, subst, MatchOption, Break, AreMostByDay, Problem, is_list_of, ones}
use Rattle.price_sums.specs.Days.{Priced}
use Rattle.short_slots.proofs.Ones.{most_of_values, small_values}
use Rattle.short_slots.proofs.working.most_of_shift.Goals as goal

-- what was found, at prices of 1
by_ones : (i : Problem) (s : ℕ) (p : Priced) (o : Option (List ℤ)) (values : List ℤ) → p ≡ record { instance = i; prices = ones i } → o ≡ Some values
    → MatchOption o ((list : List Break) → is_list_of i s list ≡ false) (λ most. AreMostByDay i s p.prices i.days most) → AreMostByDay i s (ones i) i.days values
by_ones i s p o values e is found =
    subst (λ (ps : List ℤ). AreMostByDay i s ps i.days values) (ap (λ (x : Priced). x.prices) e)
    (subst (λ (x : Option (List ℤ)). MatchOption x ((list : List Break) → is_list_of i s list ≡ false) (λ most. AreMostByDay i s p.prices i.days most)) is found)

pub greatest_of-requires-clause-small : goal.greatest_of-requires-clause-small
greatest_of-requires-clause-small c = λ day h.
    small_values c.args.instance.now c.args.shift c.in-Some.most c.days.ensures.valid
    (by_ones c.args.instance.now c.args.shift c.args.sums.now c.in_ok-most.field-0 c.in-Some.most c.requires.sums c.in-Some.is c.in_ok-most.ensures)
    day (subst (λ (n : ℕ). day < n) c.days.ensures.days h)

pub returns-in-Some : goal.returns-in-Some
returns-in-Some c =
    let i = c.args.instance.now in
    most_of_values i c.args.shift c.greatest_of.result c.in-Some.most
    (by_ones i c.args.shift c.args.sums.now c.in_ok-most.field-0 c.in-Some.most c.requires.sums c.in-Some.is c.in_ok-most.ensures)
    (λ day h. c.greatest_of.ensures.each day (subst (λ (n : ℕ). day < n) (sym c.days.ensures.days) h))
    (λ n above. c.greatest_of.ensures.least n (λ day h. above day (subst (λ (n : ℕ). day < n) c.days.ensures.days h)))
