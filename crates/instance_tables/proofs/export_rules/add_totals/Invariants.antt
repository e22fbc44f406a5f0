use Rattle.instance_tables.proofs.Common.{◌≡◌, ◌++◌, take, codes, string_bytes, flat_map, total_text}
use Rattle.instance_tables.proofs.export_rules.add_totals.Given as goal

abbrev pub invariant-loop-next : goal.invariant-loop-next
invariant-loop-next l =
    string_bytes l.text ≡ string_bytes l.fn.text ++ flat_map (λ e. codes " " ++ total_text l.slot_minutes e) (take l.next-index l.entries)
