use Rattle.graft_runs.proofs.Common.{◌≡◌, ◌++◌, ◌∷◌, take, string_bytes, flat_map, break_text}
use Rattle.graft_runs.proofs.breaks.add_further.Given as goal

abbrev pub invariant-loop-next : goal.invariant-loop-next
invariant-loop-next l = string_bytes l.text ≡ string_bytes l.fn.text ++ flat_map (λ b. 44 ∷ break_text b) (take l.next-index l.breaks)
