use Rattle.break_rules.proofs.Common.{◌≡◌, Bool, true, false, List, slice_index_or, ap, subst, ◌∙◌, Break, is_live, Setting, place_of, spot_of, is_walk}
use Rattle.break_rules.proofs.Reaching.{known_at}
use Rattle.break_rules.proofs.living.LiveSpots.is_live.Goals as goal

pub returns : goal.returns
returns c =
    let s = c.self.inside in
    let here : (list : List Break) → is_walk s.rule.value s.len list ≡ true → c.args.spot ≡ spot_of s.rule.value list → c.is_live_in.result ≡ is_live s.rule.value s.len list =
    λ list walk is.
    c.is_live_in.ensures ∙ ap (λ (t : List Bool). slice_index_or t (place_of s.len c.args.spot) false) c.deref.ensures.value
    ∙ known_at s.rule.value s.len list c.args.spot s.table.items c.self.invariant.0 c.self.invariant.1 walk is in
    subst (λ (v : Setting). (list : List Break) → is_walk v.rule v.len list ≡ true → c.args.spot ≡ spot_of v.rule list → c.is_live_in.result ≡ is_live v.rule v.len list) c.self.view_is here
