use Rattle.pricing.proofs.Common.{◌≡◌, ◌∷◌, [], true, false, sym, ap, subst, ◌∙◌, IfOk, is_legal, is_live, IsRule, spot_of, live_walks, Priced, AreEnoughAround}
use Rattle.pricing.proofs.Beyond.{ok_map}
use Rattle.pricing.proofs.Onward.{around_dead, around_legal}
use Rattle.pricing.proofs.Ways.{enough_of_all}
use Rattle.pricing.proofs.layer_rests.LayerRestsRests.around.Goals as goal

pub returns-in_default : goal.returns-in_default
returns-in_default c =
    let s = c.self.inside in
    let inv = c.self.invariant in
    let front = c.args.front.now in
    let rule : IsRule s.values.rule = subst IsRule (sym (ap (λ (p : Priced). p.rule) inv.known)) inv.well_formed in
    subst (λ (p : Priced). AreEnoughAround p c.args.named.now front c.new.result.items) c.self.view_is
    (enough_of_all s.values c.args.named.now front c.new.result.items (around_dead s.values front c.new.result.items rule c.in_default.ensures c.new.ensures.items))

pub returns-then-ends : goal.returns-then-ends
returns-then-ends c =
    let s = c.self.inside in
    let inv = c.self.invariant in
    let front = c.args.front.now in
    let rule : IsRule s.values.rule = subst IsRule (sym (ap (λ (p : Priced). p.rule) inv.known)) inv.well_formed in
    let live : is_live s.rule.now s.len front ≡ true = subst (λ (p : Priced). is_live p.rule p.len front ≡ true) inv.known c.in-Some.ensures.0 in
    let spot : c.in-Some.spot ≡ spot_of s.rule.now front = subst (λ (p : Priced). c.in-Some.spot ≡ spot_of p.rule front) inv.known c.in-Some.ensures.1 in
    let own : is_legal s.rule.now s.len front ≡ true = sym (c.ends.ensures front (live_walks s.rule.now s.len front live) spot) ∙ c.if-ends.true in
    let legal : is_legal s.values.rule s.values.len front ≡ true = subst (λ (p : Priced). is_legal p.rule p.len front ≡ true) (sym inv.known) own in
    ok_map c.alone.result (λ lists. lists.items ≡ front ∷ []) (λ lists. AreEnoughAround c.args.self.now c.args.named.now front lists.items)
    (λ lists h. subst (λ (p : Priced). AreEnoughAround p c.args.named.now front lists.items) c.self.view_is (enough_of_all s.values c.args.named.now front lists.items (around_legal s.values front lists.items rule legal h))) c.alone.ensures

pub best_onward-requires-clause-unfinished : goal.best_onward-requires-clause-unfinished
best_onward-requires-clause-unfinished c =
    let s = c.self.inside in
    let inv = c.self.invariant in
    let front = c.args.front.now in
    let live : is_live s.rule.now s.len front ≡ true = subst (λ (p : Priced). is_live p.rule p.len front ≡ true) inv.known c.in-Some.ensures.0 in
    let spot : c.in-Some.spot ≡ spot_of s.rule.now front = subst (λ (p : Priced). c.in-Some.spot ≡ spot_of p.rule front) inv.known c.in-Some.ensures.1 in
    let own : is_legal s.rule.now s.len front ≡ false = sym (c.ends.ensures front (live_walks s.rule.now s.len front live) spot) ∙ c.if-ends.false in
    subst (λ (p : Priced). is_legal p.rule p.len front ≡ false) (sym inv.known) own

pub returns : goal.returns
returns c = subst (λ (p : Priced). IfOk c.best_onward.result (λ lists. AreEnoughAround p c.args.named.now c.args.front.now lists.items)) c.self.view_is c.best_onward.ensures
