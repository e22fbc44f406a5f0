use Rattle.local_moves.proofs.Common.{◌∙◌, cond, sym, ap, refl}
use Rattle.local_moves.proofs.RowPlaces.{counted_read, counted_at, count_end}
use Rattle.local_moves.proofs.places.count_in.Goals as goal
use Rattle.local_moves.proofs.places.count_in.Goals.{else-at-rows-via-then-at-rows+else-is_of, else-at-rows-via-else-at-rows}

pub returns-then-is_of : goal.returns-then-is_of
returns-then-is_of c =
    counted_read c.args.duty.now c.args.rows.now c.place-at.result c.index-rows-at.result c.index-rows-at-then-is_of.result c.is_of.result c.requires.order c.place-at.ensures.before c.place-at.ensures.stops
    c.if-at-rows.true c.index-rows-at.is c.index-rows-at-then-is_of.is c.is_of.ensures c.if-is_of.true

pub returns-else-at-rows : goal.returns-else-at-rows
returns-else-at-rows c =
    let rows = c.args.rows.now in
    let k = c.place-at.result in
    elim c.else-at-rows.branch [
      | else-at-rows-via-then-at-rows+else-is_of w ↦
          sym (ap (λ b. cond b w.index-rows-at.result.count 0) w.if-is_of.false)
          ∙ counted_at c.args.duty.now rows rows k w.index-rows-at.result w.is_of.result refl c.requires.order c.place-at.ensures.before c.place-at.ensures.stops w.if-at-rows.true w.index-rows-at.is w.is_of.ensures
      | else-at-rows-via-else-at-rows w ↦ sym (count_end c.args.duty.now rows k c.place-at.ensures.before w.if-at-rows.false)
    ]
