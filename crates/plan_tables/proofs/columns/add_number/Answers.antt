use Rattle.plan_tables.proofs.Common.{◌≡◌, ◌++◌, OnOk, string_bytes, List, ℕ, ap, subst, ◌∙◌, decimal, styled_decimal, at_right}
use Rattle.plan_tables.proofs.Numbers.{number_at_right}
use Rattle.plan_tables.proofs.columns.add_number.Goals as goal

pub returns : goal.returns
returns c =
    let written : styled_decimal c.laid_out.result c.args.number ≡ at_right c.args.width (decimal c.args.number) =
    ap (λ s. styled_decimal s c.args.number) c.laid_out.ensures ∙ number_at_right c.args.width c.args.number in
    subst (λ (field : List ℕ). OnOk c.write.result (string_bytes c.write.new.self ≡ string_bytes c.args.text.now ++ field)) written c.write.ensures.bytes
