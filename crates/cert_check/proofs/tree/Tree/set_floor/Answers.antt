use Rattle.cert_check.proofs.Common.{◌≡◌, rules, refl, Some, slice_get, vec_len, slice_get_read}
use Rattle.cert_check.proofs.KeptNodes.{within_kept, older_set, floor_set}
use Rattle.cert_check.proofs.tree.Tree.set_floor.Goals as goal

pub index_mut-requires : goal.index_mut-requires
index_mut-requires c = within_kept c.self.inside.kept.items c.args.self.now c.args.node (vec_len c.self.inside.kept) c.self.view_is (search rules) c.requires

pub invariant_of-self : goal.invariant_of-self
invariant_of-self c =
    let less = within_kept c.self.inside.kept.items c.args.self.now c.args.node (vec_len c.self.inside.kept) c.self.view_is (search rules) c.requires in
    let at : slice_get c.self.inside.kept.items c.args.node ≡ Some c.index_mut.result.now =
    slice_get_read c.self.inside.kept.items (vec_len c.self.inside.kept) c.args.node c.index_mut.result.now (search rules) less c.index_mut.ensures.value in
    older_set c.self.inside.kept.items c.args.node c.index_mut.result.now _ c.self.invariant at refl

pub returns : goal.returns
returns c =
    let less = within_kept c.self.inside.kept.items c.args.self.now c.args.node (vec_len c.self.inside.kept) c.self.view_is (search rules) c.requires in
    let at : slice_get c.self.inside.kept.items c.args.node ≡ Some c.index_mut.result.now =
    slice_get_read c.self.inside.kept.items (vec_len c.self.inside.kept) c.args.node c.index_mut.result.now (search rules) less c.index_mut.ensures.value in
    floor_set c.self.inside.kept.items c.args.self.now c.args.node c.index_mut.result.now c.args.floor c.self.invariant c.self.view_is at
