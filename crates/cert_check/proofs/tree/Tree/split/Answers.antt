use Rattle.cert_check.proofs.Common.{◌≡◌, ◌∷◌, ◌++◌, [], List, set, rules, sym, ap, ◌∙◌, true, Some, slice_get, vec_len, slice_get_read, KeptNode}
use Rattle.cert_check.proofs.KeptNodes.{within_kept, same_some, split_kept}
use Rattle.cert_check.proofs.tree.Tree.split.Goals as goal

pub index-requires : goal.index-requires
index-requires c = within_kept c.self.inside.kept.items c.args.self.now c.args.node (vec_len c.self.inside.kept) c.self.view_is (search rules) c.requires.there

pub index_mut-requires : goal.index_mut-requires
index_mut-requires c = within_kept c.self.inside.kept.items c.args.self.now c.args.node (vec_len c.reserve.new.self) c.self.view_is (search rules) c.requires.there

pub invariant_of-self-2 : goal.invariant_of-self-2
invariant_of-self-2 c =
    let kept = c.self.inside.kept.items in
    let x = c.index_mut.result.now in
    let less = within_kept kept c.args.self.now c.args.node (vec_len c.self.inside.kept) c.self.view_is (search rules) c.requires.there in
    let at : slice_get kept c.args.node ≡ Some x = slice_get_read kept (vec_len c.self.inside.kept) c.args.node x (search rules) less (search rules) in
    let first : slice_get kept c.args.node ≡ Some c.index.result.now = slice_get_read kept (vec_len c.self.inside.kept) c.args.node c.index.result.now (search rules) less c.index.ensures in
    let floor : c.index.result.now.floor ≡ x.floor = ap (λ (n : KeptNode). n.floor) (same_some c.index.result.now x (sym first ∙ at)) in
    (split_kept kept c.push_reserved-2.new.self.items c.args.self.now c.args.node x c.new_part.result c.new_part-2.result c.args.class.now c.args.m c.index.result.now.floor
    c.self.invariant c.self.view_is at floor (search rules) (search rules)
    (c.push_reserved-2.ensures.items
    ∙ ap (λ (l : List KeptNode). l ++ c.new_part-2.result ∷ []) (c.push_reserved.ensures.items ∙ ap (λ (l : List KeptNode). set l c.args.node (record { part = x.part; floor = x.floor; split = true }) ++ c.new_part.result ∷ []) c.reserve.ensures.items))).0

pub returns : goal.returns
returns c =
    let kept = c.self.inside.kept.items in
    let x = c.index_mut.result.now in
    let less = within_kept kept c.args.self.now c.args.node (vec_len c.self.inside.kept) c.self.view_is (search rules) c.requires.there in
    let at : slice_get kept c.args.node ≡ Some x = slice_get_read kept (vec_len c.self.inside.kept) c.args.node x (search rules) less (search rules) in
    let first : slice_get kept c.args.node ≡ Some c.index.result.now = slice_get_read kept (vec_len c.self.inside.kept) c.args.node c.index.result.now (search rules) less c.index.ensures in
    let floor : c.index.result.now.floor ≡ x.floor = ap (λ (n : KeptNode). n.floor) (same_some c.index.result.now x (sym first ∙ at)) in
    (split_kept kept c.push_reserved-2.new.self.items c.args.self.now c.args.node x c.new_part.result c.new_part-2.result c.args.class.now c.args.m c.index.result.now.floor
    c.self.invariant c.self.view_is at floor (search rules) (search rules)
    (c.push_reserved-2.ensures.items
    ∙ ap (λ (l : List KeptNode). l ++ c.new_part-2.result ∷ []) (c.push_reserved.ensures.items ∙ ap (λ (l : List KeptNode). set l c.args.node (record { part = x.part; floor = x.floor; split = true }) ++ c.new_part.result ∷ []) c.reserve.ensures.items))).1
