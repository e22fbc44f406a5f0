use Rattle.cert_check.proofs.Common.{◌≡◌, ℕ, Option, rules, Some, slice_get, vec_len, option_map, slice_get_read, IfOk-weaker, Cut, Part, IsCutAbove}
use Rattle.cert_check.proofs.KeptNodes.{within_kept, above_is}
use Rattle.cert_check.proofs.tree.Tree.cut_above.Goals as goal

pub index-requires : goal.index-requires
index-requires c = within_kept c.self.inside.kept.items c.args.self.now c.args.node (vec_len c.self.inside.kept) c.self.view_is (search rules) c.requires

pub returns : goal.returns
returns c =
    let less = within_kept c.self.inside.kept.items c.args.self.now c.args.node (vec_len c.self.inside.kept) c.self.view_is (search rules) c.requires in
    let at : slice_get c.self.inside.kept.items c.args.node ≡ Some c.index.result.now =
    slice_get_read c.self.inside.kept.items (vec_len c.self.inside.kept) c.args.node c.index.result.now (search rules) less c.index.ensures in
    IfOk-weaker c.cut_of.result (λ (above : Option (ℕ × Cut)). above ≡ option_map (λ (p : Part). (p.above, p.cut)) c.index.result.now.part) (IsCutAbove c.args.self.now c.args.node)
    (λ above e. above_is c.self.inside.kept.items c.args.self.now c.args.node c.index.result.now above c.self.invariant c.self.view_is at e) c.cut_of.ensures
