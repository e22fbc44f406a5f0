use Rattle.cert_check.proofs.Common.{◌≡◌, rules, Some, slice_get, vec_len, slice_get_read}
use Rattle.cert_check.proofs.KeptNodes.{within_kept, floor_raised}
use Rattle.cert_check.proofs.tree.Tree.raise_floor.Goals as goal

pub index-requires : goal.index-requires
index-requires c = within_kept c.self.inside.kept.items c.args.self.now c.args.node (vec_len c.self.inside.kept) c.self.view_is (search rules) c.requires

pub returns : goal.returns
returns c =
    let less = within_kept c.self.inside.kept.items c.args.self.now c.args.node (vec_len c.self.inside.kept) c.self.view_is (search rules) c.requires in
    let at : slice_get c.self.inside.kept.items c.args.node ≡ Some c.index.result.now =
    slice_get_read c.self.inside.kept.items (vec_len c.self.inside.kept) c.args.node c.index.result.now (search rules) less c.index.ensures in
    floor_raised c.self.inside.kept.items c.args.self.now c.set_floor.new.self c.args.node c.index.result.now c.args.floor c.max.result c.self.invariant c.self.view_is at c.max.ensures c.set_floor.ensures
