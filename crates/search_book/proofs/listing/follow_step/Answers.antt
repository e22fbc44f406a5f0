use Rattle.search_book.proofs.Common.{◌≡◌, ℕ, ◌+◌, ◌<◌, ◌≤◌, List, ap, sym, ◌∙◌, subst, arith, false, nat_lt, filter, has_node, Entry, with_open}
use Rattle.search_book.proofs.Listings.{below_low, dropped_below, kept_below, low_new, low_next, IsBelow}
use Rattle.search_book.proofs.listing.follow_step.Goals as goal
use Rattle.search_book.proofs.listing.follow_step.Goals.{then-cost-best, else-cost-best}

pub add_where_open-requires-clause-room : goal.add_where_open-requires-clause-room
add_where_open-requires-clause-room c =
    let below : IsBelow c.args.nodes.now c.args.state.now.book.cost c.if-cost-best.nodes = elim c.if-cost-best.branch [
      | then-cost-best w ↦ dropped_below c.args.nodes.now w.drop_from.new.self c.if-cost-best.nodes c.args.state.now.book.cost c.cost-cost.result w.nodes-is c.cost-cost.ensures.cost w.drop_from.ensures.left w.drop_from.ensures.spare
      | else-cost-best w ↦ kept_below c.args.nodes.now c.if-cost-best.nodes c.args.best c.args.count c.args.state.now.book.cost c.cost-cost.result w.nodes-is c.cost-cost.ensures.cost c.requires.listed w.if-cost-best.false
    ] in
    omega (arith, below.1, c.requires.room)

pub add_where_open-requires-clause-new : goal.add_where_open-requires-clause-new
add_where_open-requires-clause-new c =
    let below : IsBelow c.args.nodes.now c.args.state.now.book.cost c.if-cost-best.nodes = elim c.if-cost-best.branch [
      | then-cost-best w ↦ dropped_below c.args.nodes.now w.drop_from.new.self c.if-cost-best.nodes c.args.state.now.book.cost c.cost-cost.result w.nodes-is c.cost-cost.ensures.cost w.drop_from.ensures.left w.drop_from.ensures.spare
      | else-cost-best w ↦ kept_below c.args.nodes.now c.if-cost-best.nodes c.args.best c.args.count c.args.state.now.book.cost c.cost-cost.result w.nodes-is c.cost-cost.ensures.cost c.requires.listed w.if-cost-best.false
    ] in
    low_new c.args.best c.args.count c.if-cost-best.nodes.entries (below_low c.args.nodes.now c.if-cost-best.nodes c.args.best c.args.count c.args.state.now.book.cost c.requires.listed below)

pub add_where_open-requires-2-clause-room : goal.add_where_open-requires-2-clause-room
add_where_open-requires-2-clause-room c =
    let below : IsBelow c.args.nodes.now c.args.state.now.book.cost c.if-cost-best.nodes = elim c.if-cost-best.branch [
      | then-cost-best w ↦ dropped_below c.args.nodes.now w.drop_from.new.self c.if-cost-best.nodes c.args.state.now.book.cost c.cost-cost.result w.nodes-is c.cost-cost.ensures.cost w.drop_from.ensures.left w.drop_from.ensures.spare
      | else-cost-best w ↦ kept_below c.args.nodes.now c.if-cost-best.nodes c.args.best c.args.count c.args.state.now.book.cost c.cost-cost.result w.nodes-is c.cost-cost.ensures.cost c.requires.listed w.if-cost-best.false
    ] in
    omega (arith, below.1, c.requires.room, c.add_where_open.ensures.spare)

pub add_where_open-requires-2-clause-new : goal.add_where_open-requires-2-clause-new
add_where_open-requires-2-clause-new c =
    let below : IsBelow c.args.nodes.now c.args.state.now.book.cost c.if-cost-best.nodes = elim c.if-cost-best.branch [
      | then-cost-best w ↦ dropped_below c.args.nodes.now w.drop_from.new.self c.if-cost-best.nodes c.args.state.now.book.cost c.cost-cost.result w.nodes-is c.cost-cost.ensures.cost w.drop_from.ensures.left w.drop_from.ensures.spare
      | else-cost-best w ↦ kept_below c.args.nodes.now c.if-cost-best.nodes c.args.best c.args.count c.args.state.now.book.cost c.cost-cost.result w.nodes-is c.cost-cost.ensures.cost c.requires.listed w.if-cost-best.false
    ] in
    let low = below_low c.args.nodes.now c.if-cost-best.nodes c.args.best c.args.count c.args.state.now.book.cost c.requires.listed below in
    subst (λ (l : List Entry). has_node l (c.args.count + 1) ≡ false) (sym c.add_where_open.ensures.entries) (low_next c.args.state.now.book c.args.best c.args.count c.if-cost-best.nodes.entries low)

pub returns-clause-entries : goal.returns-clause-entries
returns-clause-entries c =
    let below : IsBelow c.args.nodes.now c.args.state.now.book.cost c.if-cost-best.nodes = elim c.if-cost-best.branch [
      | then-cost-best w ↦ dropped_below c.args.nodes.now w.drop_from.new.self c.if-cost-best.nodes c.args.state.now.book.cost c.cost-cost.result w.nodes-is c.cost-cost.ensures.cost w.drop_from.ensures.left w.drop_from.ensures.spare
      | else-cost-best w ↦ kept_below c.args.nodes.now c.if-cost-best.nodes c.args.best c.args.count c.args.state.now.book.cost c.cost-cost.result w.nodes-is c.cost-cost.ensures.cost c.requires.listed w.if-cost-best.false
    ] in
    c.add_where_open-2.ensures.entries
    ∙ ap (λ (l : List Entry). with_open c.args.state.now.book l (c.args.count + 1)) c.add_where_open.ensures.entries
    ∙ ap (λ (l : List Entry). with_open c.args.state.now.book (with_open c.args.state.now.book l c.args.count) (c.args.count + 1)) below.0

pub returns-clause-spare : goal.returns-clause-spare
returns-clause-spare c =
    let below : IsBelow c.args.nodes.now c.args.state.now.book.cost c.if-cost-best.nodes = elim c.if-cost-best.branch [
      | then-cost-best w ↦ dropped_below c.args.nodes.now w.drop_from.new.self c.if-cost-best.nodes c.args.state.now.book.cost c.cost-cost.result w.nodes-is c.cost-cost.ensures.cost w.drop_from.ensures.left w.drop_from.ensures.spare
      | else-cost-best w ↦ kept_below c.args.nodes.now c.if-cost-best.nodes c.args.best c.args.count c.args.state.now.book.cost c.cost-cost.result w.nodes-is c.cost-cost.ensures.cost c.requires.listed w.if-cost-best.false
    ] in
    omega (arith, below.1, c.add_where_open.ensures.spare, c.add_where_open-2.ensures.spare)
