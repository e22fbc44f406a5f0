use Rattle.pricing.proofs.Common.{subst, IsDistinct, same_list}
use Rattle.pricing.proofs.Firsts.{distinct_map}
use Rattle.pricing.proofs.beginnings.Beginnings.lists.Goals as goal

pub returns-clause-once : goal.returns-clause-once
returns-clause-once c = subst (IsDistinct same_list) c.self.view_is (distinct_map (λ k. k.items) same_list c.self.inside.set.keys c.as_slice.ensures.unique)
