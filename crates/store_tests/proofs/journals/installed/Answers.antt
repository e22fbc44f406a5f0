use Rattle.std.proofs.Common.{ℕ, List, [], ◌∷◌, length, map, ◌∙◌, ap, arith}
use Rattle.gated_journal.specs.Format.{spelled}
use Rattle.store_tests.proofs.journals.installed.Goals as goal

pub install-requires-clause-room : goal.install-requires-clause-room
install-requires-clause-room c =
    omega (arith, ap (λ (records : List (List ℕ)). length (spelled (7 ∷ 8 ∷ 9 ∷ []) records)) (ap (map (λ v. v.items)) c.deref.ensures.value ∙ c.in_ok-records.ensures))
