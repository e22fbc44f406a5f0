-- The term of a shift by the values of its days.
use Rattle.bound_sums.proofs.Common.{◌≡◌, ℕ, ◌*◌, ℤ, pos, ◌-ℤ◌, ◌*ℤ◌, Bool, false, cond, List, sym, ap, ◌∙◌, int_max, int_min, int_sum_by, Problem, below, lists_of, Cut, Prices, low, high, whole_class, is_nil, is_forced, day_value, free_day_value, term, IsValue}

module _ (i : Problem) (cuts : List Cut) (prices : Prices) (s day : ℕ) (v : ℤ) (lo hi : ℕ) (value : IsValue i cuts prices s day v) (is_low : lo ≡ low cuts (whole_class s day)) (is_high : hi ≡ high i cuts (whole_class s day)) where
  pub day_worth : int_max (v *ℤ pos lo) (v *ℤ pos hi) ≡ day_value i cuts prices s day
  day_worth =
      ap (λ (n : ℕ). int_max (v *ℤ pos n) (v *ℤ pos hi)) is_low
      ∙ ap (λ (n : ℕ). int_max (v *ℤ pos (low cuts (whole_class s day))) (v *ℤ pos n)) is_high
      ∙ ap (λ (z : ℤ). int_max (z *ℤ pos (low cuts (whole_class s day))) (z *ℤ pos (high i cuts (whole_class s day)))) value.is

  pub free_worth : int_max (pos 0) (v *ℤ pos hi) ≡ free_day_value i cuts prices s day
  free_worth =
      ap (λ (n : ℕ). int_max (pos 0) (v *ℤ pos n)) is_high
      ∙ ap (λ (z : ℤ). int_max (pos 0) (z *ℤ pos (high i cuts (whole_class s day)))) value.is

-- the term by the sums over the days
pub term_is : (i : Problem) (cuts : List Cut) (prices : Prices) (s : ℕ) (z ranged free : ℤ) (forced : Bool) (paid : ℕ)
    → is_nil (lists_of i s) ≡ false
    → z ≡ cond forced (pos paid -ℤ ranged) (int_min (pos 0) (pos paid -ℤ free))
    → forced ≡ is_forced i cuts s → ranged ≡ int_sum_by (day_value i cuts prices s) (below i.days) → free ≡ int_sum_by (free_day_value i cuts prices s) (below i.days)
    → paid ≡ prices.q * i.shift → z ≡ term i cuts prices s
term_is i cuts prices s z ranged free forced paid some is is_forced_ is_ranged is_free is_paid =
    let rest : ℤ = cond (is_forced i cuts s) (pos (prices.q * i.shift) -ℤ int_sum_by (day_value i cuts prices s) (below i.days)) (int_min (pos 0) (pos (prices.q * i.shift) -ℤ int_sum_by (free_day_value i cuts prices s) (below i.days))) in
    is
    ∙ ap (λ (b : Bool). cond b (pos paid -ℤ ranged) (int_min (pos 0) (pos paid -ℤ free))) is_forced_
    ∙ ap (λ (n : ℕ). cond (is_forced i cuts s) (pos n -ℤ ranged) (int_min (pos 0) (pos n -ℤ free))) is_paid
    ∙ ap (λ (y : ℤ). cond (is_forced i cuts s) (pos (prices.q * i.shift) -ℤ y) (int_min (pos 0) (pos (prices.q * i.shift) -ℤ free))) is_ranged
    ∙ ap (λ (y : ℤ). cond (is_forced i cuts s) (pos (prices.q * i.shift) -ℤ int_sum_by (day_value i cuts prices s) (below i.days)) (int_min (pos 0) (pos (prices.q * i.shift) -ℤ y))) is_free
    ∙ sym (ap (λ (b : Bool). cond b (pos 0) rest) some)
