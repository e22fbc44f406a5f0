use Rattle.break_rules.proofs.Common.{◌≡◌, ◌+◌, ◌<◌, ap, ◌∙◌, arith, end_of, is_lunch, bits_of}
use Rattle.break_rules.proofs.Steps.{bounds, total_small, spot_with}
use Rattle.break_rules.proofs.walking.after.Goals as goal

pub returns : goal.returns
returns c = λ list is next.
    let rule = c.args.rule.now in
    let b = c.args.next in
    let f = bounds rule next.0 c.args.spot.offset c.args.spot.used b next.2 in
    let small : next.0 < 65536 = next.1 in
    let total = total_small rule next.0 c.requires in
    let offset : c.saturating_add.result ≡ end_of b = omega arith in
    let used : c.saturating_add-2.result ≡ c.args.spot.used + b.len = omega arith in
    spot_with rule list c.args.spot b c.saturating_add.result c.saturating_add-2.result c.lunches_met.result c.requires.few_lunches is offset used
    (c.lunches_met.ensures.bits ∙ ap (bits_of (λ e. is_lunch e b)) c.as_slice.ensures)
