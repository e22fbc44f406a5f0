use Rattle.search_book.proofs.Common.{◌≡◌, ◌+◌, ◌≤◌, ℕ, List, length, sym, subst, arith, Entry, ListsBelow}
use Rattle.search_book.proofs.Listings.{all_below, new_below, one_below}
use Rattle.search_book.proofs.listing.all_open.Goals as goal

pub add_where_open-requires-clause-new : goal.add_where_open-requires-clause-new
add_where_open-requires-clause-new c = new_below c.args.state.now.book c.loop-node.node c.loop-node.nodes.entries c.loop-node.invariant.0

pub loop-node-preserved : goal.loop-node-preserved
loop-node-preserved c =
    let b = c.args.state.now.book in (
      subst (λ (l : List Entry). ListsBelow b (c.loop-node.node + 1) l) (sym c.add_where_open.ensures.entries) (one_below b c.loop-node.node c.loop-node.nodes.entries c.loop-node.invariant.0),
      omega (arith, c.loop-node.invariant.1, c.add_where_open.ensures.spare),
    )

pub returns : goal.returns
returns c =
    let b = c.args.state.now.book in
    let same : c.loop-node.node ≡ length b.nodes = omega (arith, c.loop-node-test.false, c.loop-node.auto.node-end, c.nodes.ensures.count) in
    all_below b c.loop-node.nodes.entries (subst (λ n. ListsBelow b n c.loop-node.nodes.entries) same c.loop-node.invariant.0)
