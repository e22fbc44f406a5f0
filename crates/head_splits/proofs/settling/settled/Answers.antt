use Rattle.head_splits.proofs.Common.{Option, None, map, nat_lt, sym, ap, ◌∙◌, find, option_map_or, Duty, Class, low, high, class_of, prefixes}
use Rattle.head_splits.proofs.WholeWalk.{settled_where_none, open_where_some}
use Rattle.head_splits.proofs.settling.settled.Goals as goal

pub split-requires-clause-duty : goal.split-requires-clause-duty
split-requires-clause-duty c = (open_where_some c.args.instance.now c.args.cuts.now c.in-Some.duty (sym c.in-Some.is ∙ c.in_ok-duty.ensures.walked.first)).1

pub judge-requires-clause-settled : goal.judge-requires-clause-settled
judge-requires-clause-settled c = settled_where_none c.args.instance.now c.args.cuts.now (sym c.in-None.is ∙ c.in_ok-duty.ensures.walked.first)

pub returns-in-Some : goal.returns-in-Some
returns-in-Some c =
    let i = c.args.instance.now in
    let cuts = c.args.cuts.now in
    let first = sym c.in-Some.is ∙ c.in_ok-duty.ensures.walked.first in
    let splits : Duty → Option Class = λ d. find (λ c'. nat_lt (low cuts c') (high i cuts c')) (map (class_of d.shift d.day) (prefixes d.breaks)) in (
      (open_where_some i cuts c.in-Some.duty first).0,
      ap (λ o. option_map_or splits o None) (sym first) ∙ c.in_ok-class-in-Some.ensures.class,
      c.in_ok-class-in-Some.ensures.m,
    )
