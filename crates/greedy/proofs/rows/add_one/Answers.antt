use Rattle.greedy.proofs.Common.{◌≡◌, ◌<◌, ◌≤◌, ◌++◌, ◌∷◌, ◌∙◌, length, take, drop, rules}
use Rattle.greedy.proofs.Places.{add_alike, add_other, add_last, one_row}
use Rattle.greedy.proofs.rows.add_one.Goals as goal
use Rattle.greedy.proofs.rows.add_one.Goals.{else-at-len-via-then-at-len+else-is_alike, else-at-len-via-else-at-len}

pub returns-then-is_alike : goal.returns-then-is_alike
returns-then-is_alike c =
    let rows = c.args.rows.now.items in
    let l : c.place-at.result < length rows = search rules in
    add_alike c.args.new c.deref.result.now rows c.place-at.result c.index_mut.result.now c.index.result.now c.is_alike.result c.deref.ensures.value c.place-at.ensures.rest c.place-at.ensures.stops
    l c.index_mut.ensures.value c.index.ensures c.is_alike.ensures c.if-is_alike.true

pub returns : goal.returns
returns c =
    let rows = c.args.rows.now.items in
    let k = c.place-at.result in
    let added : c.insert.new.self.items ≡ take k rows ++ c.args.new ∷ drop k rows = c.in_ok-insert.ensures.items in
    added ∙ one_row c.args.new rows k c.requires.one ∙ elim c.else-at-len.branch [
      | else-at-len-via-then-at-len+else-is_alike w ↦
          let l : k < length rows = search rules in
          add_other c.args.new c.deref.result.now rows k w.index.result.now w.is_alike.result c.deref.ensures.value c.place-at.ensures.rest c.place-at.ensures.stops l w.index.ensures w.is_alike.ensures w.if-is_alike.false
      | else-at-len-via-else-at-len w ↦
          let l : length rows ≤ k = search rules in
          add_last c.args.new c.deref.result.now rows k c.deref.ensures.value c.place-at.ensures.rest l
    ]
