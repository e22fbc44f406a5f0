use Rattle.short_cover.proofs.Common.{ℕ, ◌-◌, List, rules, subst, ShortSlot}
use Rattle.std.proofs.lemmas.List.Sorted.{answers_always}
use Rattle.std.specs.declared.cmp.Reverse.{Reverse}
use Rattle.std.specs.List.Sorted.{IsPermutation}
use Rattle.short_cover.proofs.short.short_slots.Goals as goal

pub returns : goal.returns
returns c =
    let key : ShortSlot → Reverse ℕ × ℕ × ℕ = λ s. (record { 0 = s.wanted - s.working }, s.working, s.slot) in
    let found = c.sort_by_key.new.self.items in
    record {
      all = subst (λ (xs : List ShortSlot). IsPermutation xs found) c.in_ok-found.ensures c.sort_by_key.ensures.permutation;
      worst_first = c.in_ok-sort_by_key.ensures.sorted key (answers_always _ _ _ (λ f a r g h. search rules));
    }
