use Rattle.break_rules.proofs.Common.{◌≡◌, ◌+◌, Bool, List, length, sym, ap, subst, ◌∙◌, arith, place_of, AreKnown}
use Rattle.break_rules.proofs.Reaching.{known_more}
use Rattle.break_rules.proofs.living.live_table.Goals as goal

pub leads_on-live-requires-clause-known : goal.leads_on-live-requires-clause-known
leads_on-live-requires-clause-known c =
    subst (λ (t : List Bool). AreKnown c.args.rule.now c.args.len (place_of c.args.len c.spot_at-spot.result) t) (sym c.deref.ensures.value)
    (λ list walk less. c.loop-place.invariant.known list walk (omega (arith, less, c.spot_at-spot.ensures.place)))

pub loop-place-preserved : goal.loop-place-preserved
loop-place-preserved c =
    let items = c.loop-place.table.items in
    let many : length items ≡ c.loop-place.place = sym (ap length c.deref.ensures.value) ∙ c.deref.ensures.len ∙ c.loop-place.invariant.many in
    record {
      many = omega (arith, c.in_ok-push.ensures.len);
      known = subst (λ (t : List Bool). AreKnown c.args.rule.now c.args.len (c.loop-place.place + 1) t) (sym c.in_ok-push.ensures.items)
          (known_more c.args.rule.now c.args.len c.loop-place.place items c.leads_on-live.result c.spot_at-spot.result c.requires many c.loop-place.invariant.known c.spot_at-spot.ensures.spot c.leads_on-live.ensures);
    }
