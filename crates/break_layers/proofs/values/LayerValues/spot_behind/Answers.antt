use Rattle.break_layers.proofs.Common.{◌≡◌, true, false, Option, sym, subst, MatchOption, Spot, is_live, spot_of, not_live, Priced, AreLayers}
use Rattle.break_layers.proofs.Following.{most_live}
use Rattle.break_layers.proofs.values.LayerValues.spot_behind.Goals as goal

pub returns-in_err-spot : goal.returns-in_err-spot
returns-in_err-spot c =
    let s = c.self.inside in
    let front = c.args.front.now in
    let dead : is_live s.rule.now s.len front ≡ false = not_live s.rule.now s.len front c.in_err-spot.ensures in
    subst (λ (o : Option Spot). MatchOption o (is_live c.args.self.now.rule c.args.self.now.len front ≡ false) (λ spot. (is_live c.args.self.now.rule c.args.self.now.len front ≡ true) × (spot ≡ spot_of c.args.self.now.rule front))) (sym c.from_residual.ensures)
    (subst (λ (v : Priced). is_live v.rule v.len front ≡ false) c.self.view_is dead)

pub returns-in-Some : goal.returns-in-Some
returns-in-Some c =
    let s = c.self.inside in
    let i = c.self.invariant in
    let front = c.args.front.now in
    let walked = c.in_ok-spot.ensures in
    let layers : AreLayers s.rule.now s.len s.sums.items c.deref.result.now = subst (AreLayers s.rule.now s.len s.sums.items) (sym c.deref.ensures.value) i.2 in
    let most = c.in-Some.ensures s.sums.items front i.1 layers walked.0 walked.1 in
    subst (λ (v : Priced). (is_live v.rule v.len front ≡ true) × (c.in_ok-spot.spot ≡ spot_of v.rule front)) c.self.view_is (most_live s.rule.now s.len s.sums.items front c.in-Some.field-0 most, walked.1)

pub returns-in-None : goal.returns-in-None
returns-in-None c =
    let s = c.self.inside in
    let i = c.self.invariant in
    let front = c.args.front.now in
    let walked = c.in_ok-spot.ensures in
    let layers : AreLayers s.rule.now s.len s.sums.items c.deref.result.now = subst (AreLayers s.rule.now s.len s.sums.items) (sym c.deref.ensures.value) i.2 in
    let dead : is_live s.rule.now s.len front ≡ false = c.in-None.ensures s.sums.items front i.1 layers walked.0 walked.1 in
    subst (λ (v : Priced). is_live v.rule v.len front ≡ false) c.self.view_is dead
