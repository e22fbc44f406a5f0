use Rattle.plan_tables.proofs.Common.{◌≡◌, ◌++◌, map, take, flat_map, default_writer, row_text, duty_columns, duty_record}
use Rattle.plan_tables.proofs.tables.duties_csv.Given as goal

abbrev pub invariant-loop-row : goal.invariant-loop-row
invariant-loop-row l = l.records ≡ row_text default_writer duty_columns ++ flat_map (duty_record l.instance) (map (λ r. r.now) (take l.row-index l.row-items))
