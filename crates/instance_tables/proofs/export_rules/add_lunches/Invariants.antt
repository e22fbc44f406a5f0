use Rattle.instance_tables.proofs.Common.{◌≡◌, ◌++◌, take, codes, string_bytes, flat_map, lunch_text}
use Rattle.instance_tables.proofs.export_rules.add_lunches.Given as goal

abbrev pub invariant-loop-next : goal.invariant-loop-next
invariant-loop-next l =
    string_bytes l.text ≡ string_bytes l.fn.text ++ flat_map (λ e. codes " " ++ lunch_text l.slot_minutes e) (take l.next-index l.entries)
