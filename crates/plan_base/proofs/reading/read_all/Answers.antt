use Rattle.plan_base.proofs.Common.{◌≡◌, ◌<◌, ◌++◌, ℕ, List, [], length, take, ap, subst, sym, ◌∙◌, arith, length-append, append-nil, length-take-le, Consumes, LosesFront}
use Rattle.plan_base.proofs.Taking.{none_consumed, more_consumed, kept_consumed, all_consumed, long_left, on_err}
use Rattle.plan_base.proofs.reading.read_all.Goals as goal

pub turns-init : goal.turns-init
turns-init g c = record {
  told = none_consumed (g.S.Source.left c.args.source.now) c.new-bytes.result.items c.new-bytes.ensures.items;
  size = omega (arith, ap length c.new-bytes.ensures.items);
  room = omega (arith, c.in_ok-room.ensures, ap length c.deref_mut-piece.ensures.value);
  faults = omega arith;
  reads = omega arith;
}

pub returns-in_err-count-clause-rest : goal.returns-in_err-count-clause-rest
returns-in_err-count-clause-rest g c =
    on_err c.from_residual-in_err-count.result (LosesFront (g.S.Source.left c.args.source.now) (g.S.Source.left c.read.new.self))
    (c.turns.bytes.items, kept_consumed (g.S.Source.left c.args.source.now) (g.S.Source.left c.turns.source) (g.S.Source.left c.read.new.self) c.turns.bytes.items c.turns.invariant.told c.in_err-count.ensures.bytes)

pub returns-then-count-eq0-clause-all : goal.returns-then-count-eq0-clause-all
returns-then-count-eq0-clause-all g c =
    let none : take c.in_ok-count.count c.read.new.into ≡ [] = ap (λ (n : ℕ). take n c.read.new.into) c.if-count-eq0.true in
    let taken = more_consumed (g.S.Source.left c.args.source.now) (g.S.Source.left c.turns.source) (g.S.Source.left c.read.new.self) c.turns.bytes.items (take c.in_ok-count.count c.read.new.into) c.turns.invariant.told c.in_ok-count.ensures.bytes.0 in
    let same : c.turns.bytes.items ++ take c.in_ok-count.count c.read.new.into ≡ c.turns.bytes.items = ap (λ (l : List ℕ). c.turns.bytes.items ++ l) none ∙ append-nil c.turns.bytes.items in
    all_consumed (g.S.Source.left c.args.source.now) (g.S.Source.left c.read.new.self) c.turns.bytes.items (subst (Consumes (g.S.Source.left c.args.source.now) (g.S.Source.left c.read.new.self)) same taken)
    (c.in_ok-count.ensures.bytes.1 c.if-count-eq0.true (omega (arith, c.turns.invariant.room, c.turns.auto.piece, c.read.auto.into)))

pub returns-then-count-limit-clause-too_long : goal.returns-then-count-limit-clause-too_long
returns-then-count-limit-clause-too_long g c _ =
    let now = take c.in_ok-count.count c.read.new.into in
    let taken = more_consumed (g.S.Source.left c.args.source.now) (g.S.Source.left c.turns.source) (g.S.Source.left c.read.new.self) c.turns.bytes.items now c.turns.invariant.told c.in_ok-count.ensures.bytes.0 in
    let size : length now ≡ c.in_ok-count.count = length-take-le c.in_ok-count.count c.read.new.into c.in_ok-count.ensures.bound in
    let long : c.args.limit < length (c.turns.bytes.items ++ now) = omega (arith, length-append c.turns.bytes.items now, size, c.if-count-limit.true, c.len.ensures, c.turns.invariant.size) in
    long_left (g.S.Source.left c.args.source.now) (g.S.Source.left c.read.new.self) (c.turns.bytes.items ++ now) c.args.limit taken long

pub returns-then-count-limit-clause-rest : goal.returns-then-count-limit-clause-rest
returns-then-count-limit-clause-rest g c =
    let now = take c.in_ok-count.count c.read.new.into in
    (c.turns.bytes.items ++ now, more_consumed (g.S.Source.left c.args.source.now) (g.S.Source.left c.turns.source) (g.S.Source.left c.read.new.self) c.turns.bytes.items now c.turns.invariant.told c.in_ok-count.ensures.bytes.0)

pub turns-preserved : goal.turns-preserved
turns-preserved g c =
    let now = take c.in_ok-count.count c.read.new.into in
    let size : length now ≡ c.in_ok-count.count = length-take-le c.in_ok-count.count c.read.new.into c.in_ok-count.ensures.bound in
    let is : c.extend_from_slice.new.self.items ≡ c.turns.bytes.items ++ now = c.in_ok-extend_from_slice.ensures.items in
    let taken = more_consumed (g.S.Source.left c.args.source.now) (g.S.Source.left c.turns.source) (g.S.Source.left c.read.new.self) c.turns.bytes.items now c.turns.invariant.told c.in_ok-count.ensures.bytes.0 in
    record {
      told = subst (Consumes (g.S.Source.left c.args.source.now) (g.S.Source.left c.read.new.self)) (sym is) taken;
      size = omega (arith, c.if-count-limit.false, c.len.ensures, length-append c.turns.bytes.items now, size, ap length is, c.turns.invariant.size);
      room = omega (arith, c.turns.invariant.room, c.turns.auto.piece, c.read.auto.into);
      faults = omega (arith, c.turns.invariant.faults, c.read.ensures.cause.grows);
      reads = omega (arith, c.turns.invariant.reads, c.read.ensures.count, c.if-count-eq0.false, length-append c.turns.bytes.items now, size, ap length is);
    }

pub returns-in_err-extend_from_slice-clause-rest : goal.returns-in_err-extend_from_slice-clause-rest
returns-in_err-extend_from_slice-clause-rest g c =
    let now = take c.in_ok-count.count c.read.new.into in
    on_err c.from_residual-in_err-extend_from_slice.result (LosesFront (g.S.Source.left c.args.source.now) (g.S.Source.left c.read.new.self))
    (c.turns.bytes.items ++ now, more_consumed (g.S.Source.left c.args.source.now) (g.S.Source.left c.turns.source) (g.S.Source.left c.read.new.self) c.turns.bytes.items now c.turns.invariant.told c.in_ok-count.ensures.bytes.0)
