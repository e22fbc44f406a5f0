use Rattle.cert_check.proofs.Common.{◌≡◌, List, length, rules, ap, arith, Node}
use Rattle.cert_check.proofs.KeptNodes.{count_is}
use Rattle.cert_check.proofs.tree.Tree.len.Goals as goal

pub returns : goal.returns
returns c =
    let len : c.len.result ≡ length c.self.inside.kept.items = search rules in
    omega (arith, len, count_is c.self.inside.kept.items, ap (λ (l : List Node). length l) c.self.view_is)
