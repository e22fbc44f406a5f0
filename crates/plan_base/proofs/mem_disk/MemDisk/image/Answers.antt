use Rattle.plan_base.proofs.Common.{◌≡◌, List, ℕ, length, reverse, sym, ◌∙◌, ap, subst, arith, content, image_of, mask_of, mask_kept, painted, reads_image}
use Rattle.std.proofs.lemmas.Option.{same_Some}
use Rattle.std.proofs.lemmas.Grind.{common_steps}
use Rattle.plan_base.proofs.Painted.{painted_image}
use Rattle.plan_base.proofs.mem_disk.MemDisk.image.Goals as goal

pub returns-in_default-clause-image : goal.returns-in_default-clause-image
returns-in_default-clause-image c =
    let m = c.args.self.now in
    let is : c.new-in_default.result.bytes.items ≡ m.bytes.items = grind (arith, common_steps, same_Some _ _ c.new-in_default.ensures.reads, c.in_ok-bytes.ensures.items, c.deref.ensures.value) in
    subst (image_of m.first.value.items (reverse m.log.items)) (sym (is ∙ m.replayed)) (reads_image m.first.value.items (reverse m.log.items) m.in_place)

pub returns-clause-image : goal.returns-clause-image
returns-clause-image c =
    let m = c.args.self.now in
    let is : c.new-3.result.bytes.items ≡ painted c.in-Some.byte m.bytes.items (mask_kept m.mask (length m.bytes.items)) = same_Some _ _ (grind (arith, common_steps)) in
    let same : painted c.in-Some.byte m.bytes.items (mask_kept m.mask (length m.bytes.items)) ≡ painted c.in-Some.byte (content m.first.value.items (reverse m.log.items)) (mask_of m.first.value.items (reverse m.log.items)) =
    ap (λ (l : List ℕ). painted c.in-Some.byte l (mask_kept m.mask (length m.bytes.items))) m.replayed ∙ ap (λ (l : List ℕ). painted c.in-Some.byte (content m.first.value.items (reverse m.log.items)) l) m.marked in
    subst (image_of m.first.value.items (reverse m.log.items)) (sym (is ∙ same)) (painted_image c.in-Some.byte m.first.value.items (reverse m.log.items) m.in_place)
