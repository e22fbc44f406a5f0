use Rattle.worker_gate.proofs.Common.{◌≡◌, ◌∙◌, ap}
use Rattle.worker_gate.proofs.turns.LockDeskTaking.sit.Goals as goal

pub into_seat-requires : goal.into_seat-requires
into_seat-requires g c =
    let there = c.requires.rests.2 in
    let same : c.in-Badge.badge ≡ there.0 = cc (c.in-Badge.is, c.replace-there.ensures.value, there.1) in
    (there.2.1.0, ap (λ b. b.views) same ∙ there.2.1.1)
