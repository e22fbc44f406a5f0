use Rattle.report_grafts.proofs.Common.{◌≡◌, ℕ, ◌-◌, ◌/◌, ◌%◌, ◌<◌, Bool, ◌==◌, [], ◌∷◌, ◌++◌, length, refl, ap, ◌∙◌, arith, Some, slice_get, slice_get_read, Cut}
use Rattle.report_grafts.proofs.Trees.{cuts_gone, halves, node_falls, part_cut, small_number}
use Rattle.report_grafts.proofs.branches.cuts_of.Goals as goal

pub part_of-requires : goal.part_of-requires
part_of-requires c =
    let bs = c.args.branches.now in
    let q : ℕ = (c.loop-at.at - 1) / 2 in
    let at : slice_get bs q ≡ Some c.index-branches-at.result = slice_get_read bs (length bs) q c.index-branches-at.result refl (omega (arith, c.loop-at-test.true, c.loop-at.invariant.there)) c.index-branches-at.is in
    small_number bs q c.index-branches-at.result c.requires.made at

pub loop-at-smaller : goal.loop-at-smaller
loop-at-smaller c =
    let bs = c.args.branches.now in
    let q : ℕ = (c.loop-at.at - 1) / 2 in
    let at : slice_get bs q ≡ Some c.index-branches-at.result = slice_get_read bs (length bs) q c.index-branches-at.result refl (omega (arith, c.loop-at-test.true, c.loop-at.invariant.there)) c.index-branches-at.is in
    node_falls [] bs c.requires.made.0 c.loop-at.at q (c.loop-at.at % 2 == 1) c.index-branches-at.result c.requires.made.1 at (halves c.loop-at.at c.loop-at-test.true)

pub loop-at-preserved : goal.loop-at-preserved
loop-at-preserved c =
    let bs = c.args.branches.now in
    let b = c.index-branches-at.result in
    let first : Bool = c.loop-at.at % 2 == 1 in
    let q : ℕ = (c.loop-at.at - 1) / 2 in
    let at : slice_get bs q ≡ Some b = slice_get_read bs (length bs) q b refl (omega (arith, c.loop-at-test.true, c.loop-at.invariant.there)) c.index-branches-at.is in
    let is = halves c.loop-at.at c.loop-at-test.true in
    let falls : b.node < c.loop-at.at = node_falls [] bs c.requires.made.0 c.loop-at.at q first b c.requires.made.1 at is in
    let pushed : c.push.new.self.items ≡ c.loop-at.list.items ++ part_cut first b ∷ [] = c.in_ok-push.ensures.items ∙ ap (λ (x : Cut). c.loop-at.list.items ++ x ∷ []) c.in_ok-part_of.ensures in
    record {
      there = omega (arith, falls, c.loop-at.invariant.there);
      cuts = λ nodes made. rw pushed (cuts_gone [] bs nodes c.loop-at.at q first b c.loop-at.list.items _ made at is (c.loop-at.invariant.cuts nodes made));
    }
