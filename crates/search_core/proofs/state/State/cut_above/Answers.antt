use Rattle.search_core.proofs.Common.{◌≡◌, ◌<◌, ℕ, ◌-◌, ◌/◌, ◌%◌, ◌==◌, ◌++◌, ◌∷◌, [], Some, get_or, length, rules, subst, sym, vec_len, Cut, cuts_in, part_of, StateView, book_or_opening}
use Rattle.std.proofs.lemmas.Result.{IfOk-weaker}
use Rattle.search_core.proofs.Outlines.{made_part, part_is, part_small, place_there}
use Rattle.search_core.proofs.state.State.cut_above.Goals as goal

pub index-requires : goal.index-requires
index-requires c =
    let b = c.self.inside in
    let there = subst (λ (v : StateView). c.args.node < length v.book.nodes) (sym c.self.view_is) c.requires.there in
    let less = place_there b.instance.value b.posts.items b.none b.outline (book_or_opening b.instance.value b.posts.items) c.args.node c.splits.result.now c.self.invariant.0 c.requires.below there c.splits.ensures in
    let many : vec_len b.posts ≡ length b.posts.items = search rules in
    subst (λ n. get_or c.splits.result.now ((c.args.node - 1) / 2) 0 < n) (sym many) less

pub part_of-requires : goal.part_of-requires
part_of-requires c =
    let b = c.self.inside in
    let book = book_or_opening b.instance.value b.posts.items in
    let there = subst (λ (v : StateView). c.args.node < length v.book.nodes) (sym c.self.view_is) c.requires.there in
    part_small book.nodes c.args.node c.index.result.now
    (made_part b.instance.value b.posts.items b.none b.outline book c.args.node c.splits.result.now c.index.result.now c.self.invariant.0 c.requires.below there c.splits.ensures c.index.ensures)

pub returns : goal.returns
returns c =
    let b = c.self.inside in
    let book = book_or_opening b.instance.value b.posts.items in
    let there = subst (λ (v : StateView). c.args.node < length v.book.nodes) (sym c.self.view_is) c.requires.there in
    let made = made_part b.instance.value b.posts.items b.none b.outline book c.args.node c.splits.result.now c.index.result.now c.self.invariant.0 c.requires.below there c.splits.ensures c.index.ensures in
    IfOk-weaker c.part_of.result (λ (p : ℕ × Cut). part_of (c.args.node % 2 == 1) c.index.result.now ≡ Some p) (λ (p : ℕ × Cut). (p.0 < c.args.node) × (cuts_in c.args.self.now.book.nodes c.args.node ≡ cuts_in c.args.self.now.book.nodes p.0 ++ p.1 ∷ []))
    (λ p e. subst (λ (v : StateView). (p.0 < c.args.node) × (cuts_in v.book.nodes c.args.node ≡ cuts_in v.book.nodes p.0 ++ p.1 ∷ [])) c.self.view_is (part_is book.nodes c.args.node c.index.result.now p made e)) c.part_of.ensures
