-- Which prices and which splits count.
use Rattle.subtree_search.proofs.Common.{◌≡◌, ◌∙◌, ℕ, ◌<◌, ◌≤◌, ◌&&◌, inl, inr, true, false, cond, List, nat_le, nat_lt, refl, sym, ap, subst, Option, Some, None, and_parts, cases_Bool, leb-true, ltb-true, IsTrue, MatchOption, Problem, Class, Cut, Prices, are_prices, low, high, is_live_class, Splitting, Proving, IsProved, Fixing, Open, is_lawful, lawful_prices, lawful_split, no_prices, IsBoundFor, IsClosing}
use Rattle.break_rules.specs.Causes.{first_cause}
use Rattle.dual_bound.specs.Faults.{price_causes, Answers}
use Rattle.dual_bound.specs.Fixing.{IsFixing, SplitsLive}
use Rattle.dual_bound.specs.declared.PriceFault.{PriceFault}
use Rattle.dual_bound.specs.declared.PriceFault.TheVariants.{NoMemory}
use Rattle.dual_bound.proofs.Causes.{faultless}

-- ---- prices

some_or_none : {X : Type 0} {x : X} → Some x ≡ None → ⊥
some_or_none e = cc (e)

-- prices with a fault are no price set
pub unlawful : (i : Problem) (cuts copy : List Cut) (prices : Prices) (fault : PriceFault) → copy ≡ cuts → Answers fault (first_cause (price_causes i copy prices)) → (fault ≡ NoMemory → ⊥) → are_prices i cuts prices ≡ false
unlawful i cuts copy prices fault same (inr why) other = absurd (other why.0)
unlawful i cuts copy prices fault same (inl cause) other =
    elim (cases_Bool (are_prices i cuts prices)) [
      | inl hit ↦ absurd (some_or_none (sym cause ∙ faultless i copy prices (subst (λ (l : List Cut). are_prices i l prices ≡ true) (sym same) hit)))
      | inr miss ↦ miss
    ]

-- the bound that is found is of the lawful prices
pub bound_lawful : (i : Problem) (cuts : List Cut) (prices : Prices) (found : Option Proving) (p : Proving) → found ≡ Some p → IsBoundFor i cuts prices found → (p.instance ≡ i) × (p.cuts ≡ cuts) × (p.prices ≡ lawful_prices i cuts prices) × IsProved p
unfolding lawful_prices
bound_lawful i cuts prices found p some b =
    let h : (p.instance ≡ i) × (p.cuts ≡ cuts) × (p.prices ≡ prices) × IsProved p = subst (λ (o : Option Proving). IsBoundFor i cuts prices o) some b in
    let one : are_prices i p.cuts p.prices ≡ true = subst (λ (j : Problem). are_prices j p.cuts p.prices ≡ true) h.0 h.3.passes in
    let two : are_prices i cuts p.prices ≡ true = subst (λ (l : List Cut). are_prices i l p.prices ≡ true) h.1 one in
    let hit : are_prices i cuts prices ≡ true = subst (λ (z : Prices). are_prices i cuts z ≡ true) h.2 two in
    (h.0, h.1, h.2 ∙ sym (ap (λ t. cond t prices (no_prices i cuts)) hit), h.3)

-- where none is found, price 0 is lawful in their place
pub none_lawful : (i : Problem) (cuts : List Cut) (prices : Prices) (found : Option Proving) → found ≡ None → IsBoundFor i cuts prices found → lawful_prices i cuts prices ≡ no_prices i cuts
unfolding lawful_prices
none_lawful i cuts prices found none b =
    let miss : are_prices i cuts prices ≡ false = subst (λ (o : Option Proving). IsBoundFor i cuts prices o) none b in
    ap (λ t. cond t prices (no_prices i cuts)) miss

-- so the bound of price 0 is that of the lawful prices
pub zero_lawful : (i : Problem) (cuts : List Cut) (prices zero : Prices) (found : Option Proving) (p : Proving) → lawful_prices i cuts prices ≡ no_prices i cuts → zero ≡ no_prices i cuts → found ≡ Some p → IsBoundFor i cuts zero found
    → (p.instance ≡ i) × (p.cuts ≡ cuts) × (p.prices ≡ lawful_prices i cuts prices) × IsProved p
zero_lawful i cuts prices zero found p other is some b =
    let h : (p.instance ≡ i) × (p.cuts ≡ cuts) × (p.prices ≡ zero) × IsProved p = subst (λ (o : Option Proving). IsBoundFor i cuts zero o) some b in
    (h.0, h.1, h.2 ∙ is ∙ sym other, h.3)

-- ---- splits

lawful_fits : (i : Problem) (cuts : List Cut) (s : Splitting) → is_lawful i cuts s ≡ true → IsTrue (is_live_class i s.class) × (low cuts s.class ≤ s.m) × (s.m < high i cuts s.class)
lawful_fits i cuts s e =
    let both = and_parts (is_live_class i s.class && nat_le (low cuts s.class) s.m) (nat_lt s.m (high i cuts s.class)) e in
    let first = and_parts (is_live_class i s.class) (nat_le (low cuts s.class) s.m) both.0 in
    (first.0, leb-true (low cuts s.class) s.m first.1, ltb-true s.m (high i cuts s.class) both.1)

split_fits : (i : Problem) (cuts : List Cut) (advised : Option Splitting) (s : Splitting) → lawful_split i cuts advised ≡ Some s → IsTrue (is_live_class i s.class) × (low cuts s.class ≤ s.m) × (s.m < high i cuts s.class)
split_fits i cuts None s e = absurd (some_or_none (sym e))
split_fits i cuts (Some a) s e =
    elim (cases_Bool (is_lawful i cuts a)) [
      | inl hit ↦
          let both : Some a ≡ Some s = sym (ap (λ t. cond t (Some a) None) hit) ∙ e in
          let same : a ≡ s = cc (both) in
          subst (λ (x : Splitting). IsTrue (is_live_class i x.class) × (low cuts x.class ≤ x.m) × (x.m < high i cuts x.class)) same (lawful_fits i cuts a hit)
      | inr miss ↦ absurd (some_or_none (sym e ∙ ap (λ t. cond t (Some a) None) miss))
    ]

-- a node that isn't settled is split as advised, where that is lawful
pub split_advised : (i : Problem) (cuts : List Cut) (advised : Option Splitting) (s : Splitting) (class : Class) (m : ℕ) (fixing : Fixing) → lawful_split i cuts advised ≡ Some s → fixing ≡ Open class m → IsFixing i cuts fixing → IsClosing i cuts advised (Open s.class s.m)
split_advised i cuts advised s class m fixing some is f =
    let fixed = subst (IsFixing i cuts) is f in
    let fits = split_fits i cuts advised s some in (
      fixed.0,
      record {
        live = fits.0;
        low = fits.1;
        high = fits.2;
        given = subst (λ (o : Option Splitting). MatchOption o (IsFixing i cuts (Open s.class s.m)) (λ x. x ≡ record { class = s.class; m = s.m })) (sym some) refl;
      },
    )

-- and else as settling its cuts gives
pub split_settling : (i : Problem) (cuts : List Cut) (advised : Option Splitting) (class : Class) (m : ℕ) (fixing : Fixing) → lawful_split i cuts advised ≡ None → fixing ≡ Open class m → IsFixing i cuts fixing → SplitsLive i cuts fixing → IsClosing i cuts advised (Open class m)
split_settling i cuts advised class m fixing none is f l =
    let fixed = subst (IsFixing i cuts) is f in
    let lives = subst (SplitsLive i cuts) is l in (
      fixed.0,
      record {
        live = lives.0;
        low = lives.1;
        high = lives.2;
        given = subst (λ (o : Option Splitting). MatchOption o (IsFixing i cuts (Open class m)) (λ x. x ≡ record { class = class; m = m })) (sym none) fixed;
      },
    )
