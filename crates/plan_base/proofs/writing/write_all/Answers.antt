use Rattle.plan_base.proofs.Common.{◌≡◌, ◌-◌, ℕ, List, length, drop, take, ap, subst, arith, length-drop, take_all, Appends}
use Rattle.plan_base.proofs.Taking.{more_appended}
use Rattle.plan_base.proofs.writing.write_all.Goals as goal

pub pieces-preserved : goal.pieces-preserved
pieces-preserved g c =
    let rest = drop c.pieces.done c.args.bytes.now in
    let size : length rest ≡ length c.args.bytes.now - c.pieces.done = length-drop c.pieces.done c.args.bytes.now in
    let whole : take (length c.args.bytes.now - c.pieces.done) rest ≡ rest = take_all (length c.args.bytes.now - c.pieces.done) rest (omega (arith, size)) in
    let taken = subst (λ (l : List ℕ). Appends (g.K.Sink.held c.pieces.sink) (g.K.Sink.held c.write.new.self) (take c.in_ok-done.field-0 l)) whole c.in_ok-done.ensures.bytes in
    record {
      within = omega (arith, c.in_ok-done.ensures.bound, ap length whole, size, c.pieces.invariant.within);
      told = more_appended (g.K.Sink.held c.args.sink.now) (g.K.Sink.held c.pieces.sink) (g.K.Sink.held c.write.new.self) c.args.bytes.now c.pieces.done c.in_ok-done.field-0 c.pieces.invariant.told taken;
      faults = omega (arith, c.pieces.invariant.faults, c.write.ensures.cause.grows);
    }
