use Rattle.head_splits.proofs.Common.{◌≡◌, ℕ, ap, ◌∙◌, unwrap_or, range_in}
use Rattle.head_splits.proofs.table.RangeTable.range_of.Goals as goal

pub returns : goal.returns
returns c i cuts h =
    let table = c.args.self.now in
    let found : c.unwrap_or.result ≡ range_in table c.args.place.now = c.unwrap_or.ensures ∙ ap (λ o. unwrap_or o (0, table.heads)) (c.copied.ensures ∙ c.get.ensures.value) in
    let is = found ∙ h c.args.place.now in
    (ap (λ (r : ℕ × ℕ). r.0) is, ap (λ (r : ℕ × ℕ). r.1) is)
