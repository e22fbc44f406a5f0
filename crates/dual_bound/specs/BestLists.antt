-- The best break list of a shift on a day at the prices of slots and cuts. Source: the pricing problem of column generation, for the bound of this
-- project's profile.
use Rattle.std.specs.Prelude.{◌≡◌, ℕ, ℤ, Bool, not, int_lt, List, Option, Some}
use Rattle.std.specs.List.{list_any, find}
use Rattle.break_rules.specs.declared.Break.{Break}
use Rattle.shift_instance.specs.Problem.{Problem}
use Rattle.shift_instance.specs.Rota.{lists_of}
use Rattle.head_splits.specs.declared.Cut.{Cut}
use Rattle.head_splits.specs.declared.Prices.{Prices}
use Rattle.head_splits.specs.Bound.{reduced}
use Rattle.bound_sums.specs.Values.{IsValue}

-- the reduced value of a duty of a shift on a day with a break list
abbrev pub value_with : Problem → List Cut → Prices → ℕ → ℕ → List Break → ℤ
value_with i cuts prices s day list = reduced i cuts prices (record { shift = s; day = day; breaks = list })

-- whether no legal list of a shift has a greater reduced value on a day than this one
abbrev pub is_greatest : Problem → List Cut → Prices → ℕ → ℕ → List Break → Bool
is_greatest i cuts prices s day list = not (list_any (λ other. int_lt (value_with i cuts prices s day list) (value_with i cuts prices s day other)) (lists_of i s))

-- the best list of a shift on a day, where a list is legal: the least of those of greatest reduced value (the lists stand in order)
unfoldable pub best_list : Problem → List Cut → Prices → ℕ → ℕ → Option (List Break)
best_list i cuts prices s day = find (is_greatest i cuts prices s day) (lists_of i s)

-- the best list of a shift on a day, with its reduced value
pub record IsBestOn (i : Problem) (cuts : List Cut) (prices : Prices) (s day : ℕ) (list : List Break) (value : ℤ) : Type 0 where
  pub best : best_list i cuts prices s day ≡ Some list
  pub valued : IsValue i cuts prices s day value
