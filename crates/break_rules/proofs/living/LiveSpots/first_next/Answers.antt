use Rattle.break_rules.proofs.Common.{◌≡◌, Bool, sym, ap, subst, ◌∙◌, List, Rule, Setting, place_of, AreKnown}
use Rattle.break_rules.proofs.Reaching.{all_known}
use Rattle.break_rules.proofs.living.LiveSpots.first_next.Goals as goal

pub first_live-requires-clause-known : goal.first_live-requires-clause-known
first_live-requires-clause-known c =
    let s = c.self.inside in
    let same : s.rule.value ≡ c.args.rule.now = ap (λ (v : Setting). v.rule) c.self.view_is ∙ sym c.requires.same in
    subst (λ (t : List Bool). AreKnown c.args.rule.now s.len (place_of s.len c.args.spot) t) (sym c.deref.ensures.value)
    (subst (λ (r : Rule). AreKnown r s.len (place_of s.len c.args.spot) s.table.items) same
    (all_known s.rule.value s.len (place_of s.len c.args.spot) s.table.items c.self.invariant.0 c.self.invariant.1))
