use Rattle.certificate.proofs.Common.{◌≡◌, ◌-◌, ◌++◌, List, ℕ, get_or, length, take, drop, ap, ◌∙◌, rules, w64, signed_decimal, to_z-of_z}
use Rattle.certificate.proofs.Short.{all_before, front_byte}
use Rattle.certificate.proofs.slot_words.short_prices.Goals as goal

pub returns-in-32 : goal.returns-in-32
returns-in-32 c =
    let after : List ℕ = c.in-Some.after.now in
    let blank : get_or after 0 0 ≡ 32 = search rules in
    let fits = c.in-Some.ensures.fits in
    let spelled = c.in-Some.ensures.spelled ∙ ap (λ (l : List ℕ). signed_decimal c.in-Some.price ++ l) (front_byte after 32 c.in-32.len_at_least blank) in
    rw (c.in_ok-push.ensures.items, to_z-of_z w64 c.in-Some.price fits)
    (all_before c.args.text.now c.loop-price.list.items c.loop-price.rest.now c.in-Some.price (take (length after - 1) (drop 1 after)) spelled fits c.loop-price.invariant)
