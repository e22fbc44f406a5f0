-- The best list of types without breaks.
use Rattle.greedy.proofs.Common.{◌≡◌, ℕ, ◌<◌, ◌≤◌, ℤ, ◌≤ℤ◌, true, false, Some, List, [], length, refl, sym, ap, ◌∙◌, subst, arith, slice_get, IsSomeAnd, option_map_or, ints, Break, Rule, is_legal, is_less_list, Shift, Problem, day_slots, shift_list, is_list_of, IsValid, worth, IsBest, some_at, Has_at, shift_within, is_some_and_at, duty, best_list}
use Rattle.break_rules.specs.Plain.{plain_rule}
use Rattle.break_rules.proofs.Plain.{plain_legal, plain_empty}
use Rattle.greedy.proofs.BestLists.{best_found}

-- under a plain rule the empty list is the best one
pub plain_best : (i : Problem) (prices : List ℤ) (s day : ℕ) (rule : Rule) → IsValid i → s < length (shift_list i) → IsSomeAnd (slice_get (shift_list i) s) (λ x. rule ≡ x.1) → rule ≡ plain_rule → best_list i prices s day ≡ Some []
plain_best i prices s day rule valid hs of plain =
    let x = some_at (shift_list i) s hs in
    let is : x.0.1 ≡ plain_rule = sym (is_some_and_at _ (λ x. rule ≡ x.1) x.0 x.1 of) ∙ plain in
    let within = shift_within i valid x.0 (Has_at (shift_list i) s x.0 x.1) in
    let some : 1 ≤ x.0.0.len = within.some_length in
    let short : x.0.0.len ≤ day_slots i = within.short in
    let limit : day_slots i ≤ 288 = valid.day_limit in
    let legal : (list : List Break) → is_list_of i s list ≡ is_legal plain_rule x.0.0.len list =
    λ list. ap (λ o. option_map_or (λ (y : Shift × Rule). is_legal y.1 y.0.len list) o false) x.1 ∙ ap (λ r. is_legal r x.0.0.len list) is in
    let empty : (other : List Break) → is_list_of i s other ≡ true → other ≡ [] = λ other h. plain_empty x.0.0.len other (sym (legal other) ∙ h) in
    let value : ℤ = worth i prices [] (duty s day []) in
    let best : IsBest i s day prices [] [] value = record {
      legal = legal [] ∙ plain_legal x.0.0.len some (omega arith);
      is_worth = refl;
      greatest = λ other h. subst (λ (l : List Break). worth i prices [] (duty s day l) ≤ℤ value) (sym (empty other h)) (itself value);
      least = λ other h g. subst (λ (l : List Break). is_less_list l [] ≡ false) (sym (empty other h)) refl;
    } in
    (best_found i prices s day [] value best).0
  where
    itself : (a : ℤ) → a ≤ℤ a
    itself a = omega (arith, ints)
