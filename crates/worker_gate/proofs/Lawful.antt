-- Which prices and which splits count.
use Rattle.worker_gate.proofs.Common.{◌≡◌, ℕ, ◌+◌, ◌/◌, ◌<◌, ◌≤◌, ◌&&◌, arith, inl, inr, true, cond, List, length, nat_le, nat_lt, sym, ap, ◌∙◌, subst, Option, Some, None, and_parts, cases_Bool, leb-true, ltb-true, IsTrue, IsSomeAnd, first_cause, Problem, Cut, Prices, are_prices, is_live_class, Splitting, IsFixing, Open, price_causes, Answers, Proving, IsProved, is_split, lawful_prices, lawful_split, zero_prices}
use Rattle.head_splits.specs.declared.Class.{Class}
use Rattle.head_splits.specs.Cuts.{low, high}
use Rattle.head_splits.proofs.Splits.{split_law}
use Rattle.dual_bound.specs.declared.PriceFault.{PriceFault}
use Rattle.dual_bound.specs.declared.PriceFault.TheVariants.{NoMemory}
use Rattle.dual_bound.proofs.Causes.{faultless}

pub lawful : (i : Problem) (cuts : List Cut) (prices : Prices) (p : Proving) → p.instance ≡ i → p.cuts ≡ cuts → p.prices ≡ prices → IsProved p → p.prices ≡ lawful_prices i cuts prices
unfolding lawful_prices
lawful i cuts prices p of_instance of_cuts of_prices proved =
    let a : are_prices i p.cuts p.prices ≡ true = subst (λ (j : Problem). are_prices j p.cuts p.prices ≡ true) of_instance proved.passes in
    let b : are_prices i cuts p.prices ≡ true = subst (λ (l : List Cut). are_prices i l p.prices ≡ true) of_cuts a in
    let c : are_prices i cuts prices ≡ true = subst (λ (z : Prices). are_prices i cuts z ≡ true) of_prices b in
    of_prices ∙ sym (ap (λ t. cond t prices (zero_prices i (length cuts))) c)

some_or_none : {X : Type 0} {x : X} → Some x ≡ None → ⊥
some_or_none e = cc (e)

pub unlawful : (i : Problem) (cuts : List Cut) (prices : Prices) (fault : PriceFault) → Answers fault (first_cause (price_causes i cuts prices)) → (fault ≡ NoMemory → ⊥) → lawful_prices i cuts prices ≡ zero_prices i (length cuts)
unfolding lawful_prices
unlawful i cuts prices fault (inr why) other = absurd (other why.0)
unlawful i cuts prices fault (inl cause) other =
    elim (cases_Bool (are_prices i cuts prices)) [
      | inl hit ↦ absurd (some_or_none (sym cause ∙ faultless i cuts prices hit))
      | inr miss ↦ ap (λ t. cond t prices (zero_prices i (length cuts))) miss
    ]

half : (low high m : ℕ) → low < high → m ≡ (low + high) / 2 → (low ≤ m) × (m < high)
half low high m less is = (omega arith, omega arith)

-- the class to split of a node that isn't settled is live, and its number is open
pub open_fits : (i : Problem) (cuts : List Cut) (class : Class) (m : ℕ) → IsFixing i cuts (Open class m) → IsTrue (is_live_class i class) × (low cuts class ≤ m) × (m < high i cuts class)
open_fits i cuts class m f =
    let law = subst (λ o. IsSomeAnd o (λ c. IsTrue (is_live_class i c) × (low cuts c < high i cuts c))) f.1 (split_law i cuts f.0) in
    let h = half (low cuts class) (high i cuts class) m law.1 f.2 in
    (law.0, h.0, h.1)

-- a lawful split is one of the node
abbrev pub FitsSplit : Problem → List Cut → Splitting → Type 0
FitsSplit i cuts s = IsTrue (is_live_class i s.class) × (low cuts s.class ≤ s.m) × (s.m < high i cuts s.class)

is_split_fits : (i : Problem) (cuts : List Cut) (s : Splitting) → is_split i cuts s ≡ true → FitsSplit i cuts s
is_split_fits i cuts s e =
    let both = and_parts (is_live_class i s.class && nat_le (low cuts s.class) s.m) (nat_lt s.m (high i cuts s.class)) e in
    let first = and_parts (is_live_class i s.class) (nat_le (low cuts s.class) s.m) both.0 in
    (first.0, leb-true (low cuts s.class) s.m first.1, ltb-true s.m (high i cuts s.class) both.1)

pub split_fits : (i : Problem) (cuts : List Cut) (advised : Option Splitting) (s : Splitting) → lawful_split i cuts advised ≡ Some s → FitsSplit i cuts s
split_fits i cuts None s e = absurd (some_or_none (sym e))
split_fits i cuts (Some a) s e =
    elim (cases_Bool (is_split i cuts a)) [
      | inl hit ↦
          let both : Some a ≡ Some s = sym (ap (λ t. cond t (Some a) None) hit) ∙ e in
          let same : a ≡ s = cc (both) in
          subst (FitsSplit i cuts) same (is_split_fits i cuts a hit)
      | inr miss ↦ absurd (some_or_none (sym e ∙ ap (λ t. cond t (Some a) None) miss))
    ]
