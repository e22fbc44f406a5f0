use Rattle.cert_check.proofs.Common.{◌≡◌, length, rules, sym, ◌∙◌, Some, arith, slice_get, slice_get_read, le-ltb}
use Rattle.cert_check.proofs.KeptNodes.{not_within, unsplit_is}
use Rattle.cert_check.proofs.tree.Tree.is_unsplit.Goals as goal

pub returns-then-node-len : goal.returns-then-node-len
returns-then-node-len c =
    let len : c.len.result ≡ length c.self.inside.kept.items = search rules in
    let at : slice_get c.self.inside.kept.items c.args.node ≡ Some c.index.result.now =
    slice_get_read c.self.inside.kept.items c.len.result c.args.node c.index.result.now len (omega (arith, c.if-node-len.true)) c.index.ensures in
    sym (unsplit_is c.self.inside.kept.items c.args.self.now c.args.node c.index.result.now c.self.invariant c.self.view_is at)

pub returns-else-node-len : goal.returns-else-node-len
returns-else-node-len c =
    let len : c.len.result ≡ length c.self.inside.kept.items = search rules in
    le-ltb c.args.node c.len.result c.if-node-len.false ∙ sym (not_within c.self.inside.kept.items c.args.self.now c.args.node c.len.result c.self.view_is len c.if-node-len.false)
