use Rattle.plan_tables.proofs.Common.{◌≡◌, ◌++◌, flat_map, default_writer, row_text, below, rota_of, slot_columns, slot_fields}
use Rattle.plan_tables.proofs.tables.cover_csv.Given as goal

abbrev pub invariant-loop-t : goal.invariant-loop-t
invariant-loop-t l = l.records ≡ row_text default_writer slot_columns ++ flat_map (λ t. row_text default_writer (slot_fields l.instance (rota_of l.rows) t)) (below l.t)
