use Rattle.plan_page.proofs.Common.{◌≡◌, ◌++◌, string_bytes, flat_map, escaped_char}
use Rattle.plan_page.proofs.escaping.add_escaped.Given as goal

abbrev pub invariant-loop-c : goal.invariant-loop-c
invariant-loop-c l = string_bytes l.page ≡ string_bytes l.fn.page ++ flat_map escaped_char l.yielded
