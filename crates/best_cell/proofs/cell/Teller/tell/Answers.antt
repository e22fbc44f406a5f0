use Rattle.std.proofs.Common.{rules, ◌≢◌, [], ◌∷◌, ap, sym, ◌∙◌, subst}
use Rattle.crossbeam_utils.specs.Seq.{cell_view}
use Rattle.best_cell.specs.Told.{last_of, Follows, IsOrderly}
use Rattle.best_cell.specs.Telling.{teller}
use Rattle.best_cell.proofs.Moves.{tells_as, orderly_more, pushed}
use Rattle.best_cell.proofs.cell.Teller.tell.Goals as goal

pub swap_as-requires : goal.swap_as-requires
swap_as-requires g c =
    let i = c.self.invariant in
    let next : Follows (last_of (cell_view c.self.inside.pass).told) (c.args.posts, c.args.cost) = rw c.self.view_is c.requires.follows in
    (search rules, (search rules, (search rules, tells_as g.W.Telling.tells _ _ _ (c.args.posts ∷ c.args.cost ∷ []) i.1 (orderly_more _ (c.args.posts, c.args.cost) i.2 next) c.requires.tells)))

pub invariant_of-self : goal.invariant_of-self
invariant_of-self g c =
    let i = c.self.invariant in
    let next : Follows (last_of (cell_view c.self.inside.pass).told) (c.args.posts, c.args.cost) = rw c.self.view_is c.requires.follows in
    let e = c.swap_as.ensures in
    let told = ap (λ v. v.told) e.rule in
    (e.cell.0 ∙ i.0, e.rule ∙ ap teller (sym told), subst IsOrderly (sym told) (orderly_more _ (c.args.posts, c.args.cost) i.2 next), subst (λ l. l ≢ []) (sym told) (pushed _ _))
