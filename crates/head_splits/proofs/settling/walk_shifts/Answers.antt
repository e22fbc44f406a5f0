use Rattle.head_splits.proofs.Common.{◌≡◌, ◌+◌, length, None, arith, sym, subst, ◌∙◌, flat_map, below, shift_list, IsWalked, shift_duties}
use Rattle.head_splits.proofs.Walked.{no_some}
use Rattle.head_splits.proofs.WholeWalk.{next_walked, stopped}
use Rattle.head_splits.proofs.settling.walk_shifts.Goals as goal

pub returns-then-is_some : goal.returns-then-is_some
returns-then-is_some c =
    let i = c.args.instance.now in
    let cuts = c.args.cuts.now in
    let found = c.in_ok-found.found in
    let before = c.args.walk.now.rows.items in
    let after = c.walk_shift.new.walk.rows.items in
    let next = next_walked i cuts (shift_duties i) c.loop-shift.shift found before c.loop-shift.walk.rows.items after c.loop-shift.invariant.walked c.in_ok-found.ensures.walked in
    record { walked = stopped i cuts (shift_duties i) (length (shift_list i)) c.loop-shift.shift found before after (omega (arith, c.loop-shift-test.true, c.shifts-shift-end.ensures.count)) (sym c.is_some.ensures ∙ c.if-is_some.true) next }

pub loop-shift-preserved : goal.loop-shift-preserved
loop-shift-preserved c =
    let i = c.args.instance.now in
    let cuts = c.args.cuts.now in
    let found = c.in_ok-found.found in
    let before = c.args.walk.now.rows.items in
    let after = c.walk_shift.new.walk.rows.items in
    let next = next_walked i cuts (shift_duties i) c.loop-shift.shift found before c.loop-shift.walk.rows.items after c.loop-shift.invariant.walked c.in_ok-found.ensures.walked in
    let nothing : found ≡ None = no_some found (sym c.is_some.ensures ∙ c.if-is_some.false) in
    record {
      prefix = c.in_ok-found.ensures.start nothing;
      walked = subst (λ o. IsWalked i cuts (flat_map (shift_duties i) (below (c.loop-shift.shift + 1))) o before after) nothing next;
    }
