use Rattle.pricing.proofs.Common.{◌≡◌, ◌-◌, ◌∙◌, sym, ap, subst, List, ℕ, ℤ, length, Some, None, Option, Rule, Shift, Problem, AreSmallPrices, ArePricesOf, Found, KeptSearch, Tabled, IsShiftOf, repriced, NameNone, NameNoneAbove, AreStepsUpTo, AreTables, IsFoundAt, IsLastChange}
use Rattle.pricing.proofs.Tabling.{count_after, small_after, graph_after, kept_after, same_after, anew_after, none_named, steps_after}
use Rattle.pricing.proofs.tables.Tables.reprice.Given.{Over}
use Rattle.pricing.proofs.tables.Tables.reprice.Goals as goal
use Rattle.pricing.proofs.tables.Tables.reprice.Goals.{In_ok-prices, After-last_change, In-Some, After-find}

module _ (g : Over) (c : In_ok-prices g) where
  -- what the tables stand for, with the instance that was passed
  abbrev own : Tabled
  own = record {
    instance = c.args.instance.now;
    shift = c.self.inside.subject.shift;
    day = c.self.inside.subject.day;
    prices = c.self.inside.prices.items;
    bonus = c.self.inside.subject.trie.entries;
  }

  same_instance : c.self.inside.instance.value ≡ c.args.instance.now
  same_instance = ap (λ (t : Tabled). t.instance) c.self.view_is ∙ c.requires.instance

  tables : AreTables own c.self.inside.subject.beginnings c.self.inside.found.kept c.self.inside.found.best
  tables =
      subst
      (λ (p : Problem). AreTables (record { instance = p; shift = c.self.inside.subject.shift; day = c.self.inside.subject.day; prices = c.self.inside.prices.items; bonus = c.self.inside.subject.trie.entries })
      c.self.inside.subject.beginnings c.self.inside.found.kept c.self.inside.found.best)
      same_instance c.self.invariant

  new_prices : c.in_ok-prices.prices.items ≡ repriced c.self.inside.prices.items c.args.changes.now
  new_prices = c.in_ok-prices.ensures ∙ ap (λ (l : List ℤ). repriced l c.args.changes.now) c.deref.ensures.value

  -- tables at the new prices, with the instance and the prices that are kept
  back_inside : (kept : KeptSearch) (best : Option Found)
      → AreTables (record { instance = c.args.instance.now; shift = c.self.inside.subject.shift; day = c.self.inside.subject.day; prices = repriced c.self.inside.prices.items c.args.changes.now; bonus = c.self.inside.subject.trie.entries })
      c.self.inside.subject.beginnings kept best
      → AreTables (record { instance = c.self.inside.instance.value; shift = c.self.inside.subject.shift; day = c.self.inside.subject.day; prices = c.in_ok-prices.prices.items; bonus = c.self.inside.subject.trie.entries })
      c.self.inside.subject.beginnings kept best
  back_inside kept best h =
      subst
      (λ (p : Problem). AreTables (record { instance = p; shift = c.self.inside.subject.shift; day = c.self.inside.subject.day; prices = c.in_ok-prices.prices.items; bonus = c.self.inside.subject.trie.entries })
      c.self.inside.subject.beginnings kept best)
      (sym same_instance)
      (subst
      (λ (l : List ℤ). AreTables (record { instance = c.args.instance.now; shift = c.self.inside.subject.shift; day = c.self.inside.subject.day; prices = l; bonus = c.self.inside.subject.trie.entries })
      c.self.inside.subject.beginnings kept best)
      (sym new_prices) h)

-- the last change, as it was found
module _ (g : Over) (c : After-last_change g) where
  seen : (x : Shift × Rule) → IsShiftOf c.args.instance.now c.self.inside.subject.shift x
      → IsLastChange c.args.instance.now x.0 c.self.inside.subject.day c.self.inside.prices.items (repriced c.self.inside.prices.items c.args.changes.now) x.0.len c.last_change.result
  seen x e =
      subst (λ (l : List ℤ). IsLastChange c.args.instance.now x.0 c.self.inside.subject.day c.self.inside.prices.items l x.0.len c.last_change.result)
      (c.deref-3.ensures.value ∙ c.in_ok-prices.ensures ∙ ap (λ (l : List ℤ). repriced l c.args.changes.now) c.deref.ensures.value)
      (subst (λ (l : List ℤ). IsLastChange c.args.instance.now x.0 c.self.inside.subject.day l c.deref-3.result.now x.0.len c.last_change.result) c.deref-2.ensures.value (c.last_change.ensures x e))

module _
    (g : Over)
    (c : In-Some g)
    (whole : (x : Shift × Rule) → IsShiftOf c.args.instance.now c.self.inside.subject.shift x
    → IsLastChange c.args.instance.now x.0 c.self.inside.subject.day c.self.inside.prices.items (repriced c.self.inside.prices.items c.args.changes.now) x.0.len c.last_change.result)
  where
    seen_some : (x : Shift × Rule) → IsShiftOf c.args.instance.now c.self.inside.subject.shift x
        → IsLastChange c.args.instance.now x.0 c.self.inside.subject.day c.self.inside.prices.items (repriced c.self.inside.prices.items c.args.changes.now) x.0.len (Some c.in-Some.last)
    seen_some x e =
        subst (λ o. IsLastChange c.args.instance.now x.0 c.self.inside.subject.day c.self.inside.prices.items (repriced c.self.inside.prices.items c.args.changes.now) x.0.len o) c.in-Some.is
        (whole x e)

-- what was found anew
module _
    (g : Over)
    (c : After-find g)
    (kept : AreTables (record { instance = c.args.instance.now; shift = c.self.inside.subject.shift; day = c.self.inside.subject.day; prices = c.self.inside.prices.items; bonus = c.self.inside.subject.trie.entries })
    c.self.inside.subject.beginnings c.self.inside.found.kept c.self.inside.found.best)
    (change : (x : Shift × Rule) → IsShiftOf c.args.instance.now c.self.inside.subject.shift x
    → IsLastChange c.args.instance.now x.0 c.self.inside.subject.day c.self.inside.prices.items (repriced c.self.inside.prices.items c.args.changes.now) x.0.len (Some c.in-Some.last))
  where
    -- some changed slot is named
    none_unreached : (x : Shift × Rule) → IsShiftOf c.args.instance.now c.args.self.now.shift x → NameNone c.args.instance.now x.0 c.args.self.now.day c.args.changes.now → c.find.new.steps ≡ c.args.steps.now
    none_unreached =
        subst (λ (t : Tabled). (x : Shift × Rule) → IsShiftOf c.args.instance.now t.shift x → NameNone c.args.instance.now x.0 t.day c.args.changes.now → c.find.new.steps ≡ c.args.steps.now) c.self.view_is
        (λ x e none. absurd (none_named (record { instance = c.args.instance.now; shift = c.self.inside.subject.shift; day = c.self.inside.subject.day; prices = c.self.inside.prices.items; bonus = c.self.inside.subject.trie.entries }) _ _ _ kept c.args.changes.now x c.in-Some.last (change x e) none))

    few_steps : (x : Shift × Rule) → IsShiftOf c.args.instance.now c.args.self.now.shift x → (bound : ℕ) → NameNoneAbove c.args.instance.now x.0 c.args.self.now.day c.args.changes.now bound
        → AreStepsUpTo x.1 x.0.len bound c.args.self.now.bonus (c.find.new.steps - c.args.steps.now)
    few_steps =
        subst
        (λ (t : Tabled). (x : Shift × Rule) → IsShiftOf c.args.instance.now t.shift x → (bound : ℕ) → NameNoneAbove c.args.instance.now x.0 t.day c.args.changes.now bound
        → AreStepsUpTo x.1 x.0.len bound t.bonus (c.find.new.steps - c.args.steps.now))
        c.self.view_is
        (λ x e bound none. steps_after (record { instance = c.args.instance.now; shift = c.self.inside.subject.shift; day = c.self.inside.subject.day; prices = c.self.inside.prices.items; bonus = c.self.inside.subject.trie.entries }) _ _ _ kept c.args.changes.now x e c.in-Some.last bound c.args.steps.now c.find.new.steps (change x e) none c.find.ensures.steps)

pub last_change-requires-clause-new : goal.last_change-requires-clause-new
last_change-requires-clause-new g c =
    let o = (goal.at.last_change-requires-clause-new g c).In_ok-prices in
    ap length (c.deref-3.ensures.value ∙ new_prices g o) ∙ count_after (own g o) _ _ _ (tables g o) c.args.changes.now

pub find-requires-clause-count : goal.find-requires-clause-count
find-requires-clause-count g c =
    let o = (goal.at.find-requires-clause-count g c).In_ok-prices in
    ap length (c.deref-4.ensures.value ∙ new_prices g o) ∙ count_after (own g o) _ _ _ (tables g o) c.args.changes.now

pub find-requires-clause-prices : goal.find-requires-clause-prices
find-requires-clause-prices g c =
    let o = (goal.at.find-requires-clause-prices g c).In_ok-prices in
    subst AreSmallPrices (sym (c.deref-4.ensures.value ∙ new_prices g o)) (small_after (own g o) _ _ _ (tables g o) c.args.changes.now c.requires.small)

pub find-requires-clause-graph : goal.find-requires-clause-graph
find-requires-clause-graph g c =
    let o = (goal.at.find-requires-clause-graph g c).In_ok-prices in
    graph_after (own g o) _ _ _ (tables g o) c.args.changes.now

pub find-requires-clause-kept : goal.find-requires-clause-kept
find-requires-clause-kept g c = λ x e other of.
    let o = (goal.at.find-requires-clause-kept g c).In_ok-prices in
    let s = (goal.at.find-requires-clause-kept g c).In-Some in
    let prices = c.deref-4.ensures.value ∙ new_prices g o in
    kept_after (own g o) _ _ _ (tables g o) c.args.changes.now c.in-Some.last x e (seen_some g s (seen g (goal.at.find-requires-clause-kept g c).After-last_change) x e) other (subst (λ (l : List ℤ). ArePricesOf c.args.instance.now x.0 c.self.inside.subject.day l other) prices of)

pub invariant_of-self : goal.invariant_of-self
invariant_of-self g c =
    let o = (goal.at.invariant_of-self g c).In_ok-prices in
    let l = (goal.at.invariant_of-self g c).After-last_change in
    let i = c.args.instance.now in
    let inside = c.self.inside in
    let none : (x : Shift × Rule) → IsShiftOf i inside.subject.shift x → IsLastChange i x.0 inside.subject.day inside.prices.items (repriced inside.prices.items c.args.changes.now) x.0.len None =
    λ x e. subst (λ o. IsLastChange i x.0 inside.subject.day inside.prices.items (repriced inside.prices.items c.args.changes.now) x.0.len o) c.in_default.is (seen g l x e) in
    let kept = same_after (own g o) _ _ _ (tables g o) c.args.changes.now c.requires.small none in
    back_inside g o inside.found.kept inside.found.best kept

pub returns-in_err-found-clause-unreached : goal.returns-in_err-found-clause-unreached
returns-in_err-found-clause-unreached g c =
    let a = goal.at.returns-in_err-found-clause-unreached g c in
    none_unreached g a.After-find (tables g a.In_ok-prices) (seen_some g a.In-Some (seen g a.After-last_change))

pub returns-in_err-found-clause-steps : goal.returns-in_err-found-clause-steps
returns-in_err-found-clause-steps g c =
    let a = goal.at.returns-in_err-found-clause-steps g c in
    few_steps g a.After-find (tables g a.In_ok-prices) (seen_some g a.In-Some (seen g a.After-last_change))

pub invariant_of-self-2 : goal.invariant_of-self-2
invariant_of-self-2 g c =
    let o = (goal.at.invariant_of-self-2 g c).In_ok-prices in
    let i = c.args.instance.now in
    let inside = c.self.inside in
    let found = c.in_ok-found.found in
    let anew : (x : Shift × Rule) → IsShiftOf i inside.subject.shift x → IsFoundAt i x inside.subject.day (repriced inside.prices.items c.args.changes.now) inside.subject.trie.entries found.kept found.best =
    λ x e. subst (λ (l : List ℤ). IsFoundAt i x inside.subject.day l inside.subject.trie.entries found.kept found.best) (c.deref-4.ensures.value ∙ new_prices g o) (c.in_ok-found.ensures.found x e) in
    back_inside g o found.kept found.best (anew_after (own g o) _ _ _ (tables g o) c.args.changes.now c.requires.small found.kept found.best anew)

pub returns-clause-unreached : goal.returns-clause-unreached
returns-clause-unreached g c =
    let a = goal.at.returns-clause-unreached g c in
    none_unreached g a.After-find (tables g a.In_ok-prices) (seen_some g a.In-Some (seen g a.After-last_change))

pub returns-clause-steps : goal.returns-clause-steps
returns-clause-steps g c =
    let a = goal.at.returns-clause-steps g c in
    few_steps g a.After-find (tables g a.In_ok-prices) (seen_some g a.In-Some (seen g a.After-last_change))
