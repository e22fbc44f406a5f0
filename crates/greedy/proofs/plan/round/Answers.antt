use Rattle.greedy.proofs.Common.{◌≡◌, ◌<◌, ◌∙◌, ℤ, Some, Vec, Global, length, refl, ap, arith, shift_list, marginal_prices, new_duties, next_shift}
use Rattle.greedy.proofs.BestLists.{none_at}
use Rattle.greedy.proofs.Bounding.{bounds_after}
use Rattle.greedy.proofs.DayValues.{some_of}
use Rattle.greedy.proofs.Keeping.{falling_after}
use Rattle.greedy.proofs.Rounding.{one_after, prices_small, taken_below, round_ends, round_goes_on}
use Rattle.greedy.proofs.plan.round.Goals as goal

pub next_shift-requires-clause-priced : goal.next_shift-requires-clause-priced
next_shift-requires-clause-priced g c = prices_small c.args.instance.now c.args.draft.now.cover.duties c.args.kept.now.sums.prices c.requires.draft.valid c.requires.kept.summed

pub add_days-requires-clause-shift : goal.add_days-requires-clause-shift
add_days-requires-clause-shift g c =
    taken_below c.args.instance.now c.args.draft.now.cover.duties c.in-Some.taken.shift (some_of _ c.in_ok-taken.field-0 _ c.in-Some.taken c.in-Some.is c.in_ok-taken.ensures.next)

pub raise-requires-clause-shift : goal.raise-requires-clause-shift
raise-requires-clause-shift g c =
    let i = c.args.instance.now in
    let all : length c.next_shift.new.bounds.items ≡ length (shift_list i) = c.in_ok-taken.ensures.bounds.all in
    let hs : c.in-Some.taken.shift < length (shift_list i) = taken_below i c.args.draft.now.cover.duties c.in-Some.taken.shift (some_of _ c.in_ok-taken.field-0 _ c.in-Some.taken c.in-Some.is c.in_ok-taken.ensures.next) in
    omega arith

pub take_prices-requires-clause-falling : goal.take_prices-requires-clause-falling
take_prices-requires-clause-falling g c =
    let i = c.args.instance.now in
    let rota = c.args.draft.now.cover.duties in
    let next = c.add_days.new.draft.cover.duties in
    falling_after i rota (new_duties i rota c.in-Some.taken.shift) next c.args.kept.now.sums.prices (marginal_prices i next) c.in_ok-add_days-in-Some.ensures.duties c.requires.kept.summed refl

pub returns-in_ok-take_prices-in-Some-clause-leads : goal.returns-in_ok-take_prices-in-Some-clause-leads
returns-in_ok-take_prices-in-Some-clause-leads g c = λ rounds h.
    round_goes_on c.args.instance.now rounds c.in-Some.taken.shift c.args.draft.now.cover.duties c.add_days.new.draft.cover.duties
    (some_of _ c.in_ok-taken.field-0 _ c.in-Some.taken c.in-Some.is c.in_ok-taken.ensures.next) c.in_ok-add_days-in-Some.ensures.duties h

pub returns-in_ok-take_prices-in-Some-clause-rounds : goal.returns-in_ok-take_prices-in-Some-clause-rounds
returns-in_ok-take_prices-in-Some-clause-rounds g c = λ after.
    one_after c.args.instance.now c.in-Some.taken.shift c.args.draft.now.cover.duties c.add_days.new.draft.cover.duties
    (some_of _ c.in_ok-taken.field-0 _ c.in-Some.taken c.in-Some.is c.in_ok-taken.ensures.next) c.in_ok-add_days-in-Some.ensures.duties after

pub returns-in_ok-take_prices-in-Some-clause-bounds : goal.returns-in_ok-take_prices-in-Some-clause-bounds
returns-in_ok-take_prices-in-Some-clause-bounds g c =
    let i = c.args.instance.now in
    let rota = c.args.draft.now.cover.duties in
    let s = c.in-Some.taken.shift in
    let taken : Some s ≡ next_shift i rota = some_of _ c.in_ok-taken.field-0 _ c.in-Some.taken c.in-Some.is c.in_ok-taken.ensures.next in
    let kept : c.take_prices.new.self.bounds.items ≡ c.raise.new.bounds.items = ap (λ (bounds : Vec ℤ Global). bounds.items) c.take_prices.ensures.bounds in
    bounds_after i rota c.add_days.new.draft.cover.duties c.next_shift.new.bounds.items c.take_prices.new.self.bounds.items s c.requires.draft.valid (taken_below i rota s taken) taken
    c.in_ok-add_days-in-Some.ensures.duties (some_of _ c.in_ok-taken.field-0 _ c.in-Some.taken c.in-Some.is c.in_ok-taken.ensures.exact) (kept ∙ c.raise.ensures) c.in_ok-taken.ensures.bounds

pub returns-in-None-clause-leads : goal.returns-in-None-clause-leads
returns-in-None-clause-leads g c = λ rounds h free.
    round_ends c.args.instance.now rounds c.args.draft.now.cover.duties (none_at c.in_ok-taken.field-0 _ c.in-None.is c.in_ok-taken.ensures.next free) h
