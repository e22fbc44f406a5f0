use Rattle.gated_journal.proofs.Common.{inl, inr, ℕ, List, subst, arith, StartFails}
use Rattle.gated_journal.proofs.Refusing.{refused_long, IsRefusedStart}
use Rattle.gated_journal.proofs.open_file.judge_long.Goals as goal
use Rattle.gated_journal.proofs.open_file.judge_long.Goals.{in_default-via-in-Some+else-from-len, in_default-via-in_default}

pub returns-in-Ok-clause-cause : goal.returns-in-Ok-clause-cause
returns-in-Ok-clause-cause g c =
    let why : IsRefusedStart c.args.digit c.args.len c.deref.result.now = elim c.in_default.branch [
      | in_default-via-in-Some+else-from-len w ↦ inr (w.in-Some.size, w.in-Some.ensures.some, omega (arith, w.if-from-len.false, w.from.ensures))
      | in_default-via-in_default w ↦ inl w.in_default.ensures.none
    ] in
    refused_long c.args.digit c.args.limit (g.D.Disk.reads c.args.disk.now) _ _ c.args.len c.in-Ok.start.items c.in-Ok.ensures.bytes c.requires.length
    (subst (IsRefusedStart c.args.digit c.args.len) c.deref.ensures.value why) _
    (subst (λ (l : List ℕ). StartFails c.args.digit l c.refusal.result) c.deref-in_default.ensures.value c.refusal.ensures)
