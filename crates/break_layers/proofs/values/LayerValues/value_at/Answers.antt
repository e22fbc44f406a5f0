use Rattle.break_layers.proofs.Common.{◌≡◌, false, List, IsTrue, subst, sym, MatchOption, Break, is_live, is_walk, spot_of, IsMostEarned, Priced, AreLayers}
use Rattle.break_layers.proofs.values.LayerValues.value_at.Goals as goal

pub returns : goal.returns
returns c =
    let s = c.self.inside in
    let i = c.self.invariant in
    let here : (list : List Break) → IsTrue (is_walk s.rule.now s.len list) → c.args.spot ≡ spot_of s.rule.now list
    → MatchOption c.value_in.result (is_live s.rule.now s.len list ≡ false) (IsMostEarned s.rule.now s.len s.sums.items list) =
    λ list walk is. c.value_in.ensures s.sums.items list i.1 (subst (AreLayers s.rule.now s.len s.sums.items) (sym c.deref.ensures.value) i.2) walk is in
    subst (λ (v : Priced). (list : List Break) → IsTrue (is_walk v.rule v.len list) → c.args.spot ≡ spot_of v.rule list → MatchOption c.value_in.result (is_live v.rule v.len list ≡ false) (IsMostEarned v.rule v.len v.sums list)) c.self.view_is here
