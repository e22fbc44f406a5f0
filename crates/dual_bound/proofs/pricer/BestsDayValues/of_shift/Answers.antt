use Rattle.dual_bound.proofs.Common.{◌<◌, ℤ, List, length, sym, ap, ◌∙◌, subst, Break, best_at, AreBests}
use Rattle.dual_bound.proofs.Kept.{bests_read, values_of_bests}
use Rattle.dual_bound.proofs.pricer.BestsDayValues.of_shift.Goals as goal

pub values_of-requires-clause-count : goal.values_of-requires-clause-count
values_of-requires-clause-count c =
    let i = c.args.instance.now in
    let own : AreBests i c.args._cuts.now c.args._prices.now c.args.shift i.days c.in-Some.bests =
    bests_read i c.args._cuts.now c.args._prices.now c.args.shift c.from.result c.args.self.now.shifts.items c.index.result.now c.in-Some.bests c.requires.serves c.requires.shift c.from.ensures c.index.ensures c.in-Some.is in
    ap length c.as_slice.ensures ∙ own.count ∙ sym c.days-days.ensures.days

pub returns-in-Some : goal.returns-in-Some
returns-in-Some c =
    let i = c.args.instance.now in
    let cuts = c.args._cuts.now in
    let prices = c.args._prices.now in
    let s = c.args.shift in
    let bests : List (List Break × ℤ) = c.in-Some.bests in
    let own : AreBests i cuts prices s i.days bests =
    bests_read i cuts prices s c.from.result c.args.self.now.shifts.items c.index.result.now bests c.requires.serves c.requires.shift c.from.ensures c.index.ensures c.in-Some.is in
    record {
      values =
          values_of_bests i cuts prices s i.days bests c.values_of.result own
          (λ day less. c.values_of.ensures day (subst (λ n. day < n) (sym c.days-days.ensures.days) less) ∙ ap (λ (bs : List (List Break × ℤ)). (best_at bs day).1) c.as_slice.ensures);
      serves = c.requires.serves;
    }
