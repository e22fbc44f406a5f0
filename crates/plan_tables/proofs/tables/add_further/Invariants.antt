use Rattle.plan_tables.proofs.Common.{◌≡◌, ◌++◌, take, codes, string_bytes, flat_map}
use Rattle.rota_writer.specs.Table.{break_text}
use Rattle.plan_tables.proofs.tables.add_further.Given as goal

abbrev pub invariant-loop-next : goal.invariant-loop-next
invariant-loop-next l =
    string_bytes l.text ≡ string_bytes l.fn.text ++ flat_map (λ b. codes " " ++ break_text l.instance l.start b) (take l.next-index l.breaks)
