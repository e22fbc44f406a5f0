use Rattle.certificate.proofs.Common.{◌≡◌, ◌++◌, ◌∷◌, take, string_bytes, All, flat_map, break_text, FitsBreak}
use Rattle.certificate.proofs.writing.add_further.Given as goal

abbrev pub invariant-loop-next : goal.invariant-loop-next
invariant-loop-next l = record {
  added : string_bytes l.text ≡ string_bytes l.fn.text ++ flat_map (λ b. 44 ∷ break_text b) (take l.next-index l.breaks);
  fits : All FitsBreak (take l.next-index l.breaks);
}
