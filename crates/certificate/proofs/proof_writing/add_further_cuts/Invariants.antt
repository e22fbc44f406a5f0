use Rattle.certificate.proofs.Common.{◌≡◌, ◌<◌, ◌^◌, ◌++◌, ◌∷◌, take, string_bytes, All, flat_map, decimal}
use Rattle.certificate.proofs.proof_writing.add_further_cuts.Given as goal

abbrev pub invariant-loop-next : goal.invariant-loop-next
invariant-loop-next l = record {
  added : string_bytes l.text ≡ string_bytes l.fn.text ++ flat_map (λ price. 44 ∷ decimal price) (take l.next-index l.prices);
  fits : All (λ price. price < 2 ^ 64) (take l.next-index l.prices);
}
