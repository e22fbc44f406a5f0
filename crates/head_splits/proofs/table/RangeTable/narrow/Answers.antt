use Rattle.head_splits.proofs.Common.{◌≡◌, ℕ, ap, ◌∙◌, refl, Place, RangeTable, raised, lowered, class_of, class_at}
use Rattle.head_splits.proofs.Narrowed.{narrowed, range_after}
use Rattle.head_splits.proofs.table.RangeTable.narrow.Goals as goal

pub returns : goal.returns
returns c i cuts are =
    let t = c.args.self.now in
    let cut = c.args.cut.now in
    let n : RangeTable = record { alloc = t.alloc; heads = t.heads; ranges = c.insert.new.self } in
    let k : Place = record { shift = cut.class.shift; day = cut.class.day; prefix = c.in_ok-from_slice.field-0 } in
    let before = c.range_of-low.ensures i cuts are in
    let after : ◌≡◌ {A = ℕ × ℕ} (c.raise.result, c.lower.result) (range_after i cuts cut (class_at k)) =
    ap (λ (n : ℕ). (n, c.lower.result)) (c.raise.ensures ∙ ap (raised cut.side cut.m) before.0)
    ∙ ap (λ (n : ℕ). ((range_after i cuts cut (class_at k)).0, n)) (c.lower.ensures ∙ ap (lowered cut.side cut.m) before.1) in
    narrowed i cuts cut t n k (c.raise.result, c.lower.result) are
    (ap (class_of cut.class.shift cut.class.day) (c.in_ok-from_slice.ensures.items ∙ c.as_slice.ensures))
    refl after c.in_ok-insert.ensures.updates.0
