-- Best lists that are kept, and their values.
use Rattle.dual_bound.proofs.Common.{◌≡◌, ℕ, ◌<◌, ℤ, pos, get_or, List, Option, Some, None, length, sym, ap, ◌∙◌, subst, arith, get_or_default, Break, Problem, shift_list, Cut, Prices, AreValues, IsValue, best_at, AreBests, AreAllBests}
use Rattle.dual_bound.proofs.Values.{at_some}

-- those of a shift, read at its place
pub bests_read : (i : Problem) (cuts : List Cut) (prices : Prices) (s k : ℕ) (shifts : List (Option (List (List Break × ℤ)))) (read : Option (List (List Break × ℤ))) (bests : List (List Break × ℤ))
    → AreAllBests i cuts prices shifts → s < length (shift_list i) → k ≡ s → read ≡ get_or shifts k read → read ≡ Some bests
    → AreBests i cuts prices s i.days bests
bests_read i cuts prices s k shifts read bests all less place is some =
    let inside : k < length shifts = omega (arith, all.count, place, less) in
    let at : get_or shifts s None ≡ Some bests = ap (λ n. get_or shifts n None) (sym place) ∙ sym (get_or_default shifts k read None inside) ∙ sym is ∙ some in
    at_some (get_or shifts s None) bests _ _ at (all.each s less)

-- their values
pub values_of_bests : (i : Problem) (cuts : List Cut) (prices : Prices) (s days : ℕ) (bests : List (List Break × ℤ)) (values : List ℤ) → AreBests i cuts prices s days bests
    → ((day : ℕ) → day < days → get_or values day (pos 0) ≡ (best_at bests day).1)
    → AreValues i cuts prices s days values
values_of_bests i cuts prices s days bests values own is =
    record { each = λ day less. subst (IsValue i cuts prices s day) (sym (is day less)) (own.each day less).valued }
