use Rattle.pricing.proofs.Common.{◌≡◌, ◌⊎◌, map, sym, subst, same_list, Has, same_list_decides, insert_key}
use Rattle.pricing.proofs.Firsts.{has_inserted, keeps_inserted, only_inserted}
use Rattle.pricing.proofs.beginnings.Beginnings.add.Goals as goal

pub returns-clause-has : goal.returns-clause-has
returns-clause-has c =
    let key = c.in_ok-key.key in
    let keys = c.self.inside.set.keys in
    subst (λ ks. Has (map (λ k. k.items) ks) c.args.list.now) (sym c.in_ok-insert.ensures.keys)
    (subst (Has (map (λ k. k.items) (insert_key (λ a b. same_list a.items b.items) keys key))) c.in_ok-key.ensures.items
    (has_inserted (λ k. k.items) (λ a b. same_list a.items b.items) (λ a b e. (same_list_decides a.items b.items).0 e) keys key))

pub returns-clause-keeps : goal.returns-clause-keeps
returns-clause-keeps c = λ other m.
    let key = c.in_ok-key.key in
    let keys = c.self.inside.set.keys in
    subst (λ ks. Has (map (λ k. k.items) ks) other) (sym c.in_ok-insert.ensures.keys)
    (keeps_inserted (λ k. k.items) (λ a b. same_list a.items b.items) (λ a b e. (same_list_decides a.items b.items).0 e) keys key other (subst (λ l. Has l other) (sym c.self.view_is) m))

pub returns-clause-only : goal.returns-clause-only
returns-clause-only c = λ other m.
    let key = c.in_ok-key.key in
    let keys = c.self.inside.set.keys in
    let one = only_inserted (λ k. k.items) (λ a b. same_list a.items b.items) (λ a b e. (same_list_decides a.items b.items).0 e) keys key other
    (subst (λ ks. Has (map (λ k. k.items) ks) other) c.in_ok-insert.ensures.keys m) in
    subst (λ l. Has l other ⊎ (other ≡ c.args.list.now)) c.self.view_is (subst (λ l. Has (map (λ k. k.items) keys) other ⊎ (other ≡ l)) c.in_ok-key.ensures.items one)
