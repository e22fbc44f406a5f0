use Rattle.local_moves.proofs.Common.{◌≡◌, ◌≤◌, ◌∙◌, arith}
use Rattle.local_moves.proofs.DraftFacts.{next_there, taken_more}
use Rattle.local_moves.proofs.keeping.take_all.Goals as goal

pub take-requires-clause-there : goal.take-requires-clause-there
take-requires-clause-there c = next_there c.args.cover.now.duties c.loop-duty.cover.duties c.args.gone.now c.loop-duty.duty-index c.duty-item.result c.loop-duty.invariant.duties c.requires.there c.loop-duty-test.true c.duty-item.is

pub loop-duty-preserved : goal.loop-duty-preserved
loop-duty-preserved c =
    let there = next_there c.args.cover.now.duties c.loop-duty.cover.duties c.args.gone.now c.loop-duty.duty-index c.duty-item.result c.loop-duty.invariant.duties c.requires.there c.loop-duty-test.true c.duty-item.is in
    record {
      draft = c.take.ensures.draft;
      duties = taken_more c.args.cover.now.duties c.loop-duty.cover.duties c.take.new.cover.duties c.args.gone.now c.loop-duty.duty-index c.duty-item.result c.loop-duty.invariant.duties there c.take.ensures.duties c.loop-duty-test.true c.duty-item.is;
      capacity = c.take.ensures.capacity ∙ c.loop-duty.invariant.capacity;
      len = omega (arith, c.take.ensures.len, c.loop-duty.invariant.len);
    }
