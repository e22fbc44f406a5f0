use Rattle.local_moves.proofs.Common.{◌≡◌, ◌<◌, ◌≤◌, ◌++◌, ◌∷◌, ◌∙◌, cond, length, take, drop, sym, ap, rules}
use Rattle.local_moves.proofs.RowPlaces.{added_alike, added_other, added_last}
use Rattle.local_moves.proofs.places.add_one.Goals as goal
use Rattle.local_moves.proofs.places.add_one.Goals.{else-at-len-via-then-at-len+else-is_of, else-at-len-via-else-at-len}

pub returns-then-is_of-clause-rows : goal.returns-then-is_of-clause-rows
returns-then-is_of-clause-rows c =
    let rows = c.args.rows.now.items in
    let l : c.place-at.result < length rows = search rules in
    added_alike c.args.duty c.deref.result.now rows c.place-at.result c.index_mut.result.now c.index.result.now c.is_of.result c.deref.ensures.value c.place-at.ensures.before c.place-at.ensures.stops
    l c.index_mut.ensures.value c.index.ensures c.is_of.ensures c.if-is_of.true

pub returns-clause-rows : goal.returns-clause-rows
returns-clause-rows c =
    let rows = c.args.rows.now.items in
    let k = c.place-at.result in
    let put : c.insert-added.new.self.items ≡ take k rows ++ c.of_one.result ∷ drop k rows =
    c.insert-added.ensures.items ∙ ap (λ b. cond b (take k rows ++ c.of_one.result ∷ drop k rows) rows) (c.insert-added.ensures.succeeds c.requires.room) in
    put ∙ ap (λ r. take k rows ++ r ∷ drop k rows) c.of_one.ensures.row
    ∙ elim c.else-at-len.branch [
      | else-at-len-via-then-at-len+else-is_of w ↦
          let l : k < length rows = search rules in
          added_other c.args.duty c.deref.result.now rows k w.index.result.now c.deref.ensures.value c.place-at.ensures.before c.place-at.ensures.stops l w.index.ensures (sym w.is_of.ensures ∙ w.if-is_of.false)
      | else-at-len-via-else-at-len w ↦
          let l : length rows ≤ k = search rules in
          added_last c.args.duty c.deref.result.now rows k c.deref.ensures.value c.place-at.ensures.before l
    ]
