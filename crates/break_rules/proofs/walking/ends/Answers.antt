use Rattle.break_rules.proofs.Common.{◌≡◌, Bool, ◌&&◌, ◌||◌, ◌==◌, nat_le, nat_lt, sym, ap, ◌∙◌, list_all, list_any, Lunch, Spot, has_work, is_lunch, is_lunched, total_of, bits_of}
use Rattle.break_rules.proofs.Steps.{legal_by_stop}
use Rattle.break_rules.proofs.walking.ends.Goals as goal

pub returns-then-may_stop : goal.returns-then-may_stop
returns-then-may_stop c = λ list walk is.
    let rule = c.args.rule.now in
    let len = c.args.len in
    let met : Lunch → Bool = λ e. list_any (is_lunch e) list in
    let stop : c.may_stop.result ≡ (nat_le c.from.result len && has_work rule (c.from.result, len) && (c.from-2.result == total_of rule len)) = c.may_stop.ensures in
    let at : c.may_stop.result ≡ (nat_le c.args.spot.offset len && has_work rule (c.args.spot.offset, len) && (c.args.spot.used == total_of rule len)) =
    stop ∙ ap (λ o. nat_le o len && has_work rule (o, len) && (c.from-2.result == total_of rule len)) c.from.ensures
    ∙ ap (λ u. nat_le c.args.spot.offset len && has_work rule (c.args.spot.offset, len) && (u == total_of rule len)) c.from-2.ensures in
    let bits : c.args.spot.lunches ≡ bits_of met c.as_slice.result.now = ap (λ (s : Spot). s.lunches) is ∙ sym (ap (bits_of met) c.as_slice.ensures) in
    let lunched : c.all_lunched.result ≡ list_all (λ e. nat_lt len e.from_len || met e) c.as_slice.result.now = c.all_lunched.ensures met bits in
    lunched ∙ ap (list_all (is_lunched len list)) c.as_slice.ensures
    ∙ sym (legal_by_stop rule len list c.args.spot c.may_stop.result walk is at ∙ ap (λ b. b && list_all (is_lunched len list) rule.lunches) c.if-may_stop.true)

pub returns-else-may_stop : goal.returns-else-may_stop
returns-else-may_stop c = λ list walk is.
    let rule = c.args.rule.now in
    let len = c.args.len in
    let stop : c.may_stop.result ≡ (nat_le c.from.result len && has_work rule (c.from.result, len) && (c.from-2.result == total_of rule len)) = c.may_stop.ensures in
    let at : c.may_stop.result ≡ (nat_le c.args.spot.offset len && has_work rule (c.args.spot.offset, len) && (c.args.spot.used == total_of rule len)) =
    stop ∙ ap (λ o. nat_le o len && has_work rule (o, len) && (c.from-2.result == total_of rule len)) c.from.ensures
    ∙ ap (λ u. nat_le c.args.spot.offset len && has_work rule (c.args.spot.offset, len) && (u == total_of rule len)) c.from-2.ensures in
    c.if-may_stop.false ∙ sym (legal_by_stop rule len list c.args.spot c.may_stop.result walk is at ∙ ap (λ b. b && list_all (is_lunched len list) rule.lunches) c.if-may_stop.false)
