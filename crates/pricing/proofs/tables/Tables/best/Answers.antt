use Rattle.pricing.proofs.Common.{rules, ◌≡◌, List, sym, subst, FitsSigned, false, w128, to_z-of_z, Break, is_list_of, IsBest, Tabled}
use Rattle.pricing.proofs.Tabling.{best_some, best_none, best_at_same}
use Rattle.pricing.proofs.tables.Tables.best.Goals as goal

pub returns-in-Some : goal.returns-in-Some
returns-in-Some c = λ bonus same.
    let best = c.in-Some.best in
    let own = c.self.inside in
    let t : Tabled = record { instance = own.instance.value; shift = own.subject.shift; day = own.subject.day; prices = own.prices.items; bonus = own.subject.trie.entries } in
    let fits : FitsSigned w128 best.value = search rules in
    let is : IsBest t.instance t.shift t.day t.prices t.bonus best.list best.value = best_some t _ _ _ c.self.invariant best c.in-Some.is in
    let view = c.args.self.now in
    let here : IsBest view.instance view.shift view.day view.prices view.bonus best.list best.value = subst (λ (t : Tabled). IsBest t.instance t.shift t.day t.prices t.bonus best.list best.value) c.self.view_is is in
    subst (IsBest view.instance view.shift view.day view.prices bonus c.as_slice.result.now) (sym (to_z-of_z w128 best.value fits))
    (subst (λ (l : List Break). IsBest view.instance view.shift view.day view.prices bonus l best.value) (sym c.as_slice.ensures) (best_at_same view bonus best.list best.value same here))

pub returns-in-None : goal.returns-in-None
returns-in-None c = λ bonus same list.
    let own = c.self.inside in
    let t : Tabled = record { instance = own.instance.value; shift = own.subject.shift; day = own.subject.day; prices = own.prices.items; bonus = own.subject.trie.entries } in
    let none : is_list_of t.instance t.shift list ≡ false = best_none t _ _ _ c.self.invariant c.in-None.is list in
    subst (λ (t : Tabled). is_list_of t.instance t.shift list ≡ false) c.self.view_is none
