use Rattle.head_splits.proofs.Common.{None, sym, subst, IsWalked}
use Rattle.head_splits.proofs.Walked.{none_walked}
use Rattle.head_splits.proofs.WholeWalk.{no_duties}
use Rattle.head_splits.proofs.settling.walk_shift.Goals as goal

pub returns-clause-walked : goal.returns-clause-walked
returns-clause-walked c =
    let i = c.args.instance.now in
    let cuts = c.args.cuts.now in
    subst (λ ds. IsWalked i cuts ds None c.args.walk.now.rows.items c.args.walk.now.rows.items)
    (sym (no_duties i cuts c.args.walk.now.place.shift c.in_ok-lists.lists c.in_ok-lists.ensures c.in-None.ensures))
    (none_walked i cuts c.args.walk.now.rows.items)
