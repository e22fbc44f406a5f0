use Rattle.rota_sheets.proofs.Common.{ℕ, List, rules, subst, answers_always, IsPermutation, TakenBreak}
use Rattle.rota_sheets.proofs.breaks.taken_breaks.Goals as goal

pub returns : goal.returns
returns c =
    let key : TakenBreak → ℕ × ℕ × ℕ = λ b. (b.begin, b.len, b.shift) in
    let taken = c.sort_by_key.new.self.items in
    record {
      all = subst (λ (bs : List TakenBreak). IsPermutation bs taken) c.in_ok-taken.ensures c.sort_by_key.ensures.permutation;
      ordered = c.in_ok-sort_by_key.ensures.sorted key (answers_always _ _ _ (λ f a r g h. search rules));
    }
