use Rattle.pricing.proofs.Common.{List, ap, ◌∙◌, Break, same_list, is_named}
use Rattle.pricing.proofs.Firsts.{any_map}
use Rattle.pricing.proofs.beginnings.Beginnings.has.Goals as goal

pub returns : goal.returns
returns c =
    c.contains.ensures ∙ any_map (λ k. k.items) (same_list c.args.list.now) c.self.inside.set.keys ∙ ap (λ (l : List (List Break)). is_named l c.args.list.now) c.self.view_is
