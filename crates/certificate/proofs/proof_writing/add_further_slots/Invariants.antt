use Rattle.certificate.proofs.Common.{◌≡◌, ◌++◌, ◌∷◌, take, string_bytes, All, w64, flat_map, signed_decimal}
use Rattle.std.specs.Prelude.{FitsSigned}
use Rattle.certificate.proofs.proof_writing.add_further_slots.Given as goal

abbrev pub invariant-loop-next : goal.invariant-loop-next
invariant-loop-next l = record {
  added : string_bytes l.text ≡ string_bytes l.fn.text ++ flat_map (λ price. 44 ∷ signed_decimal price) (take l.next-index l.prices);
  fits : All (FitsSigned w64) (take l.next-index l.prices);
}
