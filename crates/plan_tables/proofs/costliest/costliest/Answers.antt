use Rattle.plan_tables.proofs.Common.{ℕ, List, rules, subst, CostlySlot, falling_cmp}
use Rattle.std.proofs.lemmas.List.Sorted.{answers_always}
use Rattle.std.specs.declared.cmp.Reverse.{Reverse}
use Rattle.std.specs.List.Sorted.{IsPermutation, IsStableByKey}
use Rattle.plan_tables.proofs.costliest.costliest.Goals as goal

pub returns : goal.returns
returns c =
    let key : CostlySlot → Reverse ℕ = λ s. record { 0 = s.cost } in
    let ranked = c.sort_by_key.new.self.items in
    record {
      ranked = ranked;
      all = subst (λ (xs : List CostlySlot). IsPermutation xs ranked) c.in_ok-found.ensures c.sort_by_key.ensures.permutation;
      falling = c.in_ok-sort_by_key.ensures.sorted key (answers_always _ _ _ (λ f a r g h. search rules));
      stable = subst (λ (xs : List CostlySlot). IsStableByKey (λ (s : CostlySlot). s.cost) falling_cmp xs ranked) c.in_ok-found.ensures (c.sort_by_key.ensures.stable key (answers_always _ _ _ (λ f a r g h. search rules)));
      first = c.truncate.ensures.items;
    }
