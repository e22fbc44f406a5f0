use Rattle.search_core.proofs.Common.{List, Option, ℕ, false, subst, sym, ◌≡◌, list_any, is_node}
use Rattle.search_core.proofs.Runs.{taken_apart}
use Rattle.search_core.proofs.hands.Hands.take.Goals as goal

pub invariant_of-self : goal.invariant_of-self
invariant_of-self c =
    taken_apart c.self.inside.nodes c.args.worker c.args.node c.self.invariant
    (subst (λ (hands : List (Option ℕ)). list_any (is_node c.args.node) hands ≡ false) (sym c.self.view_is) c.requires.free)
