use Rattle.instance_warnings.proofs.Common.{◌≡◌, ℕ, List, [], ◌∷◌, ◌++◌, true, false, subst, sym, IsTrue, if◌then◌else◌, All-push, Duty, is_legal_duty, is_reached, AreLegal}
use Rattle.instance_warnings.proofs.Reached.{reached_by, not_reached, same_if, more_if}
use Rattle.instance_warnings.proofs.reaching.reach.Goals as goal

pub returns-in-Some-clause-legal : goal.returns-in-Some-clause-legal
returns-in-Some-clause-legal c =
    let i = c.args.instance.now in
    let r = rw c.in-Some.is at c.in_ok-duty.ensures in
    λ all. subst (AreLegal i) (sym c.add.ensures.duties) (All-push (λ (d : Duty). IsTrue (is_legal_duty i d)) c.args.cover.now.duties c.in-Some.duty all r.legal)

pub returns-in-Some-clause-list : goal.returns-in-Some-clause-list
returns-in-Some-clause-list c =
    let i = c.args.instance.now in
    let r = rw c.in-Some.is at c.in_ok-duty.ensures in
    let e : is_reached i c.args.t ≡ true = subst (λ (u : ℕ). is_reached i u ≡ true) c.from.ensures (reached_by i c.from.result c.in-Some.duty r) in
    same_if (is_reached i c.args.t) c.args.list.now.items (c.args.t ∷ []) e

pub returns-in_ok-push-in-None-clause-list : goal.returns-in_ok-push-in-None-clause-list
returns-in_ok-push-in-None-clause-list c =
    let i = c.args.instance.now in
    let r = rw c.in-None.is at c.in_ok-duty.ensures in
    let e : is_reached i c.args.t ≡ false = subst (λ (u : ℕ). is_reached i u ≡ false) c.from.ensures (not_reached i c.from.result r) in
    subst (λ (zs : List ℕ). zs ≡ c.args.list.now.items ++ (if is_reached i c.args.t then [] else (c.args.t ∷ []))) (sym (c.in_ok-push-in-None.ensures).items) (more_if (is_reached i c.args.t) c.args.list.now.items (c.args.t ∷ []) e)
