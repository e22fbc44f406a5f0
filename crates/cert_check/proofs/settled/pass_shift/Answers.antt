use Rattle.cert_check.proofs.Common.{None, sym, subst, IsWalked, shift_duties, none_walked, no_duties}
use Rattle.cert_check.proofs.Passing.{all_passed}
use Rattle.cert_check.proofs.settled.pass_shift.Goals as goal

pub returns : goal.returns
returns c =
    let i = c.args.instance.now in
    let cuts = c.args.cuts.now in
    let s = c.args.shift in
    all_passed i cuts (shift_duties i s) c.args.rows.now.items c.args.rows.now.items
    (subst (λ ds. IsWalked i cuts ds None c.args.rows.now.items c.args.rows.now.items)
    (sym (no_duties i cuts s c.in_ok-lists.lists c.in_ok-lists.ensures c.in-None.ensures))
    (none_walked i cuts c.args.rows.now.items))
