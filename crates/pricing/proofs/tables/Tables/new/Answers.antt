use Rattle.pricing.proofs.Common.{◌≡◌, ◌<◌, ◌∙◌, sym, ap, subst, List, ℕ, ℤ, length, ◌-◌, arith, Rule, Shift, Problem, shift_list, IsShift, AreSmallPrices, some_at, IsShiftOf, AreStepsUpTo, AreTables, AreKeptAbove, IsFoundAt}
use Rattle.pricing.proofs.Reached.{steps_within}
use Rattle.pricing.proofs.Tabling.{none_kept_above}
use Rattle.pricing.proofs.Worths.{short_shift}
use Rattle.pricing.proofs.tables.Tables.new.Given.{Over}
use Rattle.pricing.proofs.tables.Tables.new.Goals as goal
use Rattle.pricing.proofs.tables.Tables.new.Goals.{After-find}

-- the steps are few, with or without memory
few_steps : (g : Over) (c : After-find g) (x : Shift × Rule) → IsShiftOf c.args.instance.now c.args.shift x → AreStepsUpTo x.1 x.0.len x.0.len c.args.bonus.now (c.find.new.steps - c.args.steps.now)
few_steps g c x e =
    let subject = c.in_ok-subject.subject in
    let ens = c.in_ok-subject.ensures in
    let len : c.shift-len.result.len ≡ x.0.len = ap (λ (s : Shift). s.len) (some_at _ x (λ y. c.shift-len.result ≡ y.0) e c.shift-len.ensures.shift) in
    steps_within x.1 x.0.len c.shift-len.result.len x.0.len c.in_ok-kept.kept subject.trie.entries c.args.bonus.now subject.beginnings c.args.steps.now c.find.new.steps
    (c.in_ok-kept.ensures x e) (omega (arith, len)) ens.beginnings (λ front leads. sym (ens.bonus.beginnings front) ∙ leads) c.find.ensures.steps

pub find-requires-clause-kept : goal.find-requires-clause-kept
find-requires-clause-kept g c = λ x e sums of.
    let subject = c.in_ok-subject.subject in
    let here : IsShiftOf c.args.instance.now c.args.shift x = subst (λ (s : ℕ). IsShiftOf c.args.instance.now s x) c.in_ok-subject.ensures.place.0 e in
    let len : c.shift-len.result.len ≡ x.0.len = ap (λ (s : Shift). s.len) (some_at _ x (λ y. c.shift-len.result ≡ y.0) here c.shift-len.ensures.shift) in
    subst (λ (n : ℕ). AreKeptAbove x.1 x.0.len sums n c.in_ok-kept.kept) (sym len) (none_kept_above x.1 x.0.len sums c.in_ok-kept.kept)

pub find-requires-clause-graph : goal.find-requires-clause-graph
find-requires-clause-graph g c = λ x e. c.in_ok-kept.ensures x (subst (λ (s : ℕ). IsShiftOf c.args.instance.now s x) c.in_ok-subject.ensures.place.0 e)

pub returns-in_err-found-clause-steps : goal.returns-in_err-found-clause-steps
returns-in_err-found-clause-steps g c = few_steps g (goal.at.returns-in_err-found-clause-steps g c).After-find

pub returns-clause-steps : goal.returns-clause-steps
returns-clause-steps g c = few_steps g (goal.at.returns-clause-steps g c).After-find

pub invariant_of-result : goal.invariant_of-result
invariant_of-result g c =
    let i = c.args.instance.now in
    let subject = c.in_ok-subject.subject in
    let ens = c.in_ok-subject.ensures in
    let found = c.in_ok-found.found in
    let prices = c.in_ok-prices.prices.items in
    let items : prices ≡ c.args.prices.now = c.in_ok-prices.ensures.items in
    let here : (x : Shift × Rule) → IsShiftOf i subject.shift x → IsShiftOf i c.args.shift x = λ x e. subst (λ (s : ℕ). IsShiftOf i s x) ens.place.0 e in
    let own : AreTables (record { instance = i; shift = subject.shift; day = subject.day; prices = prices; bonus = subject.trie.entries }) subject.beginnings found.kept found.best =
    record {
      shift = subst (λ (s : ℕ). s < length (shift_list i)) (sym ens.place.0) c.requires.shift;
      count = ap length items ∙ c.requires.count;
      small = subst AreSmallPrices (sym items) c.requires.prices;
      beginnings = ens.beginnings;
      short = λ x e. short_shift i x.0 c.shift-len.ensures.valid (subst (IsShift i) (some_at _ x (λ y. c.shift-len.result ≡ y.0) (here x e) c.shift-len.ensures.shift) c.shift-len.ensures.within);
      found = λ x e. subst (λ (l : List ℤ). IsFoundAt i x subject.day l subject.trie.entries found.kept found.best) c.deref.ensures.value (c.in_ok-found.ensures.found x e);
    } in
    subst (λ (p : Problem). AreTables (record { instance = p; shift = subject.shift; day = subject.day; prices = prices; bonus = subject.trie.entries }) subject.beginnings found.kept found.best) (sym c.of.ensures) own
