use Rattle.plan_tables.proofs.Common.{◌≡◌, ℕ, ◌++◌, OnOk, subst, string_bytes, duties_head, last_columns, longest_name}
use Rattle.plan_tables.proofs.Appending.{joined_last}
use Rattle.plan_tables.proofs.duty_lines.add_head.Goals as goal

pub returns : goal.returns
unfolding duties_head
returns c =
    let before = string_bytes c.add_first_columns.new.text in
    let new = string_bytes c.add_last_columns.new.text in
    let last : OnOk c.add_last_columns.result (new ≡ before ++ last_columns (longest_name c.args.instance.now)) =
    subst (λ (width : ℕ). OnOk c.add_last_columns.result (new ≡ before ++ last_columns width)) c.requires c.add_last_columns.ensures in
    joined_last c.add_last_columns.result (string_bytes c.args.text.now) _ _ new c.in_ok-add_first_columns.ensures last
