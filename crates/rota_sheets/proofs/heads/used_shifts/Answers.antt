use Rattle.rota_sheets.proofs.Common.{ℕ, List, rules, subst, answers_always, IsPermutation, UsedShift}
use Rattle.rota_sheets.proofs.heads.used_shifts.Goals as goal

pub returns : goal.returns
returns c =
    let key : UsedShift → ℕ × ℕ × ℕ = λ u. (u.shift.start, u.shift.len, u.shift.kind) in
    let found = c.sort_by_key.new.self.items in
    record {
      all = subst (λ (us : List UsedShift). IsPermutation us found) c.in_ok-found.ensures c.sort_by_key.ensures.permutation;
      ordered = c.in_ok-sort_by_key.ensures.sorted key (answers_always _ _ _ (λ f a r g h. search rules));
    }
