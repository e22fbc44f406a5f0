use Rattle.descents.proofs.Common.{◌≡◌, ◌+◌, ◌<◌, arith, MatchBool-at_false, MatchBool-at_true, rota_of, IsEvener}
use Rattle.descents.proofs.Evener.{above_zero, evened_at, evened_more, evened_same}
use Rattle.descents.proofs.evening.even_rows.Goals as goal
use Rattle.descents.proofs.evening.even_rows.Goals.{then-branch, else-branch}

pub loop-k-preserved : goal.loop-k-preserved
loop-k-preserved c =
    let i = c.args.instance.now in
    let old = c.args.draft.now in
    let mid = c.loop-k.draft in
    let new = c.even_row.new.draft in
    let left = c.loop-k.left in
    let some : 0 < left = above_zero left c.if-left-eq0.false in
    elim c.if-branch.branch [
      | then-branch w ↦
          let one : c.if-branch.left + 1 ≡ left = omega (arith, w.left-is) in
          evened_more i old mid new c.args.left.now left c.loop-k.invariant c.in_ok-even_row.ensures.instance some
          (MatchBool-at_true (IsEvener i (rota_of mid.rows) (rota_of new.rows)) (new ≡ mid) w.if-branch.true c.in_ok-even_row.ensures.evener)
          c.if-branch.left one
      | else-branch w ↦
          let same : c.if-branch.left ≡ left = w.left-is in
          evened_at i old new c.args.left.now left c.if-branch.left same
          (evened_same i old mid new c.args.left.now left c.loop-k.invariant
          (MatchBool-at_false (IsEvener i (rota_of mid.rows) (rota_of new.rows)) (new ≡ mid) w.if-branch.false c.in_ok-even_row.ensures.evener))
    ]
