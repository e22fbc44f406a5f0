use Rattle.recovery.proofs.Common.{◌≡◌, ◌<◌, ◌-◌, ◌/◌, ◌%◌, ◌==◌, List, ◌++◌, ◌∷◌, [], length, arith, refl, subst, sym, slice_get_read, Cut, cuts_at}
use Rattle.recovery.proofs.CutTrees.{above_is, place_there}
use Rattle.recovery.proofs.cut_tree.CutTree.cut_above.Goals as goal

pub index-division-requires : goal.index-division-requires
index-division-requires c =
    let ds = c.self.inside.divisions.items in
    let there = subst (λ (v : List (List Cut)). c.args.node < length v) (sym c.self.view_is) c.requires.there in
    omega (arith, place_there ds c.args.node c.requires.below there)

pub cut_of-requires : goal.cut_of-requires
cut_of-requires c =
    let ds = c.self.inside.divisions.items in
    let there = subst (λ (v : List (List Cut)). c.args.node < length v) (sym c.self.view_is) c.requires.there in
    let at = slice_get_read ds (length ds) ((c.args.node - 1) / 2) c.index-division.result.now refl (place_there ds c.args.node c.requires.below there) c.index-division.ensures in
    (c.self.invariant ((c.args.node - 1) / 2) c.index-division.result.now at).1

pub returns : goal.returns
returns c =
    let ds = c.self.inside.divisions.items in
    let there = subst (λ (v : List (List Cut)). c.args.node < length v) (sym c.self.view_is) c.requires.there in
    let at = slice_get_read ds (length ds) ((c.args.node - 1) / 2) c.index-division.result.now refl (place_there ds c.args.node c.requires.below there) c.index-division.ensures in
    subst (λ (v : List (List Cut)). (c.index-division.result.now.node < c.args.node) × (cuts_at v c.args.node ≡ cuts_at v c.index-division.result.now.node ++ c.in_ok-cut.cut ∷ [])) c.self.view_is
    (above_is ds c.args.node c.index-division.result.now (c.args.node % 2 == 1) c.in_ok-cut.cut c.self.invariant c.requires.below at refl c.in_ok-cut.ensures)
