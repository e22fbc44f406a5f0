-- The values of shifts, day by day, and those at other prices.
use Rattle.greedy.proofs.Common.{◌≡◌, ℕ, zero, suc, refl, ◌*◌, ℤ, pos, Option, Some, None, List, get_or, sym, ap, ◌∙◌, subst, arith, false, MatchOption, replicate, option_map_or, ints, Break, Problem, is_list_of, IsMostOn, duty, earned_with, best_list, day_value, ArePrices, IsWithin}
use Rattle.greedy.proofs.BestLists.{best_found, best_missing, earned_small}

-- what the best duty of a day earns is the day's value
pub most_is : (i : Problem) (prices : List ℤ) (s day : ℕ) (value : ℤ) → IsMostOn i s day prices value → value ≡ day_value i prices s day
unfolding day_value
most_is i prices s day value m =
    let f = best_found i prices s day m.0 value m.1 in
    f.1 ∙ sym (ap (λ (o : Option (List Break)). option_map_or (earned_with i prices s day) o (pos 0)) f.0)

none_small : IsWithin (2016 * 1000000) (pos 0)
none_small = record { above = omega (arith, ints); below = omega (arith, ints) }

-- what was found is as a clause says of it
pub some_of : {X : Type 0} (A : Type 0) (o : Option X) (B : X → Type 0) (x : X) → o ≡ Some x → MatchOption o A B → B x
some_of A o B x e h = subst (λ o. MatchOption o A B) e h

-- a lane of zeros
pub zeros : (n day : ℕ) → get_or (replicate n (pos 0)) day (pos 0) ≡ pos 0
zeros zero day = refl
zeros (suc n) zero = refl
zeros (suc n) (suc day) = zeros n day

-- where no list is legal the value is 0
pub none_is : (i : Problem) (prices : List ℤ) (s day : ℕ) → ((list : List Break) → is_list_of i s list ≡ false) → pos 0 ≡ day_value i prices s day
unfolding day_value
none_is i prices s day h = sym (ap (λ (o : Option (List Break)). option_map_or (earned_with i prices s day) o (pos 0)) (best_missing i prices s day h))

-- and where there is no best list
pub missing_is : (i : Problem) (prices : List ℤ) (s day : ℕ) → None ≡ best_list i prices s day → pos 0 ≡ day_value i prices s day
unfolding day_value
missing_is i prices s day h = ap (λ (o : Option (List Break)). option_map_or (earned_with i prices s day) o (pos 0)) h

-- no value is large
pub value_small : (i : Problem) (prices : List ℤ) (s day : ℕ) → ArePrices i prices → IsWithin (2016 * 1000000) (day_value i prices s day)
unfolding day_value
value_small i prices s day h = parts (best_list i prices s day)
  where
    parts : (o : Option (List Break)) → IsWithin (2016 * 1000000) (option_map_or (earned_with i prices s day) o (pos 0))
    parts None = none_small
    parts (Some list) = earned_small i prices (duty s day list) h
